-- What a judgement tells: the position that it names, and all that holds of a usable map.
-- Assumes nothing; of a dictionary, where widths are bounded, that it gives none above 32.
use Prim.Native.Nat.{ℕ, zero, suc, ◌≤◌, ◌<◌}
use mathlib.Core.Path.{◌≡◌, refl}
use mathlib.Core.Bool.{Bool, true, false, cond, not, ◌&&◌, and-eq-true_iff}
use mathlib.Core.Option.{Option, none, some}
use mathlib.Core.List.{List}
use native.Mathlib.Omega.{arith}
use borrow.Author.Tests.{leb-true, eqb-false, not-true}
use lib.Dec.{leb, eqb}
use lib.ListN.{length, get_or}
use Rattle.answers.specs.Answers.{at}
use Rattle.message.specs.declared.Place.{Place}
use Rattle.words.specs.First.{lowest}
use Rattle.places.specs.Place.{end_of, shares_bit, end_in, end_to, bytes_for, size_of, Apart, unplaced_in}
use Rattle.words.proofs.Lowest.{lowest-most}
use Rattle.words.proofs.Lists.{length-tabulate, get_tabulate}
use Rattle.places.proofs.Place.{apart}
use Rattle.places.proofs.Placed.{none_unplaced}
use Rattle.maps.specs.Maps.{Map, Nothing, Conflict, Held}
use Rattle.judge.specs.Judge.{Param, with_width, measured, is_none, spn_at, start_at, width_at, width_in, wrong_transport, rules, size_over, judge_over, judge, usable, count_of, params_of, spns_of, starts_of, widths_of, length_of}
use Rattle.judge.specs.Usable.{Usable}
use Rattle.judge.proofs.Rules.{Ruled, Named, first-named, nameless}
use Rattle.judge.proofs.Exactly.{usable_exactly, shares_no}

module _ (n : ℕ) (transport : Bool) (ps : ℕ → Option Param) where
  ruled : Ruled n (rules n ps)
  ruled = (rule _ _ refl, (rule _ _ refl, (rule _ _ refl, (rule _ _ refl, (rule _ _ refl, (rule _ _ refl, (rule _ _ refl, tt)))))))
    where
      rule : (k : ℕ) (t : ℕ → Bool) → (leb 2 k && (leb k 9 && not (eqb k 8))) ≡ true → (2 ≤ k) × (k ≤ 9) × (k ≡ 8 → ⊥) × (lowest t n ≤ n)
      rule k t e =
          let (a, b) = (and-eq-true_iff (leb 2 k) (leb k 9 && not (eqb k 8))).0 e in
          let (c, d) = (and-eq-true_iff (leb k 9) (not (eqb k 8))).0 b in
          (leb-true 2 k a, leb-true k 9 c, eqb-false k 8 (not-true _ d), lowest-most t n)

  last-named : (b : Bool) → Named n (at (cond b 8 0) 0)
  last-named true = nameless n 8 (omega arith) (λ l m. m refl)
  last-named false = nameless n 0 (omega arith) (λ l m. omega arith)

  -- 2 to 7 and 9 name a position from 1 to n; 0, 1 and 8 name none
  pub judged-named : Named n (judge_over n transport ps)
  unfolding judge_over
  judged-named = first-named n (rules n ps) _ ruled (last-named (wrong_transport transport (size_over n ps)))

-- ---- of a map

pub judge-named : (width_of : ℕ → ℕ) (m : Map) → Named (count_of m) (judge width_of m)
judge-named width_of Nothing = nameless 0 0 (omega arith) (λ l m. omega arith)
judge-named width_of Conflict = nameless 0 1 (omega arith) (λ l m. omega arith)
judge-named width_of (Held h places) = judged-named h.n h.transport (measured width_of places)

-- what a usable map has (`Usable`), by index
pub record Sound (n : ℕ) (ps : ℕ → Option Param) : Type 0 where
  pub present : (i : ℕ) → i < n → is_none (ps (suc i)) ≡ false
  pub known : (i : ℕ) → i < n → 1 ≤ width_at ps i
  pub once : (i j : ℕ) → i < j → j < n → spn_at ps i ≡ spn_at ps j → ⊥
  pub apart : (i j : ℕ) → i < j → j < n → shares_bit (start_at ps i) (width_at ps i) (start_at ps j) (width_at ps j) ≡ false
  pub within : (i : ℕ) → i < n → end_of (start_at ps i) (width_at ps i) ≤ 14280

module _ (width_of : ℕ → ℕ) where
  pub usable_sound : (m : Map) → usable width_of m ≡ true → Sound (count_of m) (params_of width_of m)
  usable_sound m e = let u = (usable_exactly width_of m).0 e in rw u.held (by_index u)
    where
      by_index : (u : Usable width_of m) → Sound u.head.n (measured width_of u.places)
      by_index u = record {
        present = λ i l. rw (here i l);
        known = λ i l. rw (here i l) (u.known (suc i) (omega arith) l);
        once = λ i j l k. rw (here i (omega arith), here j k) (u.once (suc i) (suc j) (omega arith) (omega arith) k);
        apart = λ i j l k. rw (here i (omega arith), here j k) (shares_no _ _ _ _ (u.apart (suc i) (suc j) (omega arith) (omega arith) k));
        within = λ i l. rw (here i l) (u.within (suc i) (omega arith) l);
      }
        where
          here : (i : ℕ) → i < u.head.n → u.places (suc i) ≡ some (u.it (suc i))
          here i l = u.present (suc i) (omega arith) l

  module _ (m : Map) where
    -- the lists by index
    pub start-at : (i : ℕ) → i < count_of m → get_or (starts_of width_of m) i 0 ≡ start_at (params_of width_of m) i
    start-at i h = get_tabulate _ (count_of m) i h

    pub width-at : (i : ℕ) → i < count_of m → get_or (widths_of width_of m) i 0 ≡ width_at (params_of width_of m) i
    width-at i h = get_tabulate _ (count_of m) i h

    pub lists_length : (length (spns_of width_of m) ≡ count_of m) × (length (starts_of width_of m) ≡ count_of m) × (length (widths_of width_of m) ≡ count_of m)
    lists_length = (length-tabulate _ (count_of m), length-tabulate _ (count_of m), length-tabulate _ (count_of m))

-- the widths of a map are its dictionary's
pub width-most : (width_of : ℕ → ℕ) → ((x : ℕ) → width_of x ≤ 32) → (m : Map) (i : ℕ) → width_at (params_of width_of m) i ≤ 32
width-most width_of most Nothing i = omega arith
width-most width_of most Conflict i = omega arith
width-most width_of most (Held h places) i = one (places (suc i))
  where
    one : (x : Option Place) → width_in (with_width width_of x) ≤ 32
    one none = omega arith
    one (some x) = most x.spn

ends_most : (ss ws : List ℕ) (b n : ℕ) → ((i : ℕ) → i < n → end_in ss ws i ≤ b) → end_to ss ws n ≤ b
unfolding end_to
ends_most ss ws b zero h = omega arith
ends_most ss ws b (suc n) h = omega (arith, ends_most ss ws b n (λ i l. h i (omega arith)), h n (omega arith))

-- ---- what payload's laws ask, of a usable map
module _ (width_of : ℕ → ℕ) (m : Map) (u : usable width_of m ≡ true) where
  its : Sound (count_of m) (params_of width_of m)
  its = usable_sound width_of m u

  -- no two of its bits have one place, and every place lies in its L bytes
  pub usable-apart : Apart (starts_of width_of m) (widths_of width_of m)
  usable-apart =
      apart (starts_of width_of m) (widths_of width_of m)
      (λ i j h k. let l : j < count_of m = rw (length-tabulate (start_at (params_of width_of m)) (count_of m)) at k in
      rw (start-at width_of m i (omega arith), width-at width_of m i (omega arith), start-at width_of m j l, width-at width_of m j l)
      (its.apart i j h l))

  -- each ends at or before bit 14,280
  pub usable_end : (i : ℕ) → i < count_of m → end_in (starts_of width_of m) (widths_of width_of m) i ≤ 14280
  usable_end i h = rw (start-at width_of m i h, width-at width_of m i h) (its.within i h)

  -- "L is at most 1,785", and at least 8
  pub usable-length : (8 ≤ length_of width_of m) × (length_of width_of m ≤ 1785)
  unfolding size_of bytes_for
  usable-length =
      let e = ends_most (starts_of width_of m) (widths_of width_of m) 14280 (count_of m) usable_end in
      let f : end_to (starts_of width_of m) (widths_of width_of m) (length (starts_of width_of m)) ≤ 14280 = rw (length-tabulate (start_at (params_of width_of m)) (count_of m)) e in
      (omega arith, omega (arith, f))

  module _ (most : (x : ℕ) → width_of x ≤ 32) where
    -- each has 1 to 32 bits
    pub usable-width : (i : ℕ) → i < count_of m → (1 ≤ get_or (widths_of width_of m) i 0) × (get_or (widths_of width_of m) i 0 ≤ 32)
    usable-width i h = rw (width-at width_of m i h) (its.known i h, width-most width_of most m i)

    -- so packing and reading a usable map of at most 64 positions never finds one without a place
    pub usable_placed : count_of m ≤ 64 → unplaced_in (starts_of width_of m) (widths_of width_of m) ≡ 0
    usable_placed l =
        none_unplaced (starts_of width_of m) (widths_of width_of m)
        (λ i h. let k : i < count_of m = rw (length-tabulate (start_at (params_of width_of m)) (count_of m)) at h in
        let (a, b) = usable-width i k in
        record { position = omega arith; some = a; most = b; ends = usable_end i k })
