-- One scan over a queue, from the front, that keeps the best place so far and its number: what it knows at each turn. Assumes nothing.
use mathlib.Core.Path.{◌≡◌, refl, sym, ap, ◌∙◌}
use mathlib.Core.Bool.{cond}
use mathlib.Core.List.{List, [], ◌∷◌}
use Prim.Native.Nat.{ℕ, suc, ◌+◌, ◌≤◌, ◌<◌, min}
use native.Mathlib.Nat.{zero-add}
use native.Mathlib.Omega.{arith}
use native.Mathlib.Decide.{dec_lt}
use borrow.Author.Tests.{le-leb, lt-leb, lt-ltb, le-ltb}
use lib.Dec.{leb, ltb}
use native.Mathlib.Numerals.{add-one}
use lib.ListN.{length, get_or, drop}
use lib.Seq.{drop-cons}
use Rattle.queue.specs.Queue.{least, place}

module _ {A : Type 0} (priority : A → ℕ) where
  -- the place that is found where the scan goes on at place k with the rest of the list
  abbrev pub found : ℕ → ℕ → ℕ → List A → ℕ
  found best low k l = cond (leb low (least priority l)) best (k + place priority l)

  -- from the front, with a number that is above all
  pub from_front : ((x : A) → priority x < 8) → (l : List A) → found 0 8 0 l ≡ place priority l
  unfolding least place
  from_front few [] = refl
  from_front few (x ∷ l) =
      let h : min (priority x) (least priority l) < 8 = omega (arith, few x) in
      rw (lt-leb 8 (min (priority x) (least priority l)) h) (zero-add (place priority (x ∷ l)))

  -- at the end
  pub at_end : (best low k : ℕ) → low ≤ 8 → found best low k [] ≡ best
  unfolding least
  at_end best low k h = rw (le-leb low 8 h)

  -- one place more
  pub one_more : (best low k : ℕ) (x : A) (l : List A)
      → found (cond (ltb (priority x) low) k best) (cond (ltb (priority x) low) (priority x) low) (k + 1) l ≡ found best low k (x ∷ l)
  unfolding least place
  one_more best low k x l = go (dec_lt (priority x) low) (dec_lt (least priority l) low) (dec_lt (least priority l) (priority x))
    where
      go : Dec (priority x < low) → Dec (least priority l < low) → Dec (least priority l < priority x)
          → cond (leb (cond (ltb (priority x) low) (priority x) low) (least priority l)) (cond (ltb (priority x) low) k best) (k + 1 + place priority l)
          ≡ cond (leb low (min (priority x) (least priority l))) best (k + cond (leb (priority x) (least priority l)) 0 (suc (place priority l)))
      go (yes a) b (yes c) =
          rw (lt-ltb (priority x) low a, lt-leb (priority x) (least priority l) c, lt-leb low (min (priority x) (least priority l)) (omega arith)) (omega arith)
      go (yes a) b (no c) =
          rw (lt-ltb (priority x) low a, le-leb (priority x) (least priority l) (omega arith), lt-leb low (min (priority x) (least priority l)) (omega arith)) (omega arith)
      go (no a) (yes b) c =
          rw (le-ltb (priority x) low (omega arith), lt-leb low (least priority l) b, lt-leb low (min (priority x) (least priority l)) (omega arith), lt-leb (priority x) (least priority l) (omega arith)) (omega arith)
      go (no a) (no b) c =
          rw (le-ltb (priority x) low (omega arith), le-leb low (least priority l) (omega arith), le-leb low (min (priority x) (least priority l)) (omega arith))

  -- its number is lower than any so far, or it is not
  pub lower_turn : (best low k : ℕ) (x : A) (l : List A) → priority x < low → found k (priority x) (k + 1) l ≡ found best low k (x ∷ l)
  lower_turn best low k x l h = rw (lt-ltb (priority x) low h) at (one_more best low k x l)

  pub other_turn : (best low k : ℕ) (x : A) (l : List A) → low ≤ priority x → found best low (k + 1) l ≡ found best low k (x ∷ l)
  other_turn best low k x l h = rw (le-ltb (priority x) low h) at (one_more best low k x l)

-- ---- a list from place k on

pub from_place : {A : Type 0} (l : List A) (k : ℕ) (d : A) → k < length l → drop k l ≡ get_or l k d ∷ drop (k + 1) l
from_place l k d h = drop-cons l k d h ∙ ap (λ (i : ℕ). get_or l k d ∷ drop i l) (sym (add-one k))
