-- Laws of lists by their index, and of a loop that writes one from the front. Assumes nothing.
use mathlib.Core.Path.{◌≡◌, refl, ap, ap₂, ◌∙◌}
use mathlib.Core.List.{List, [], ◌∷◌, ◌++◌, append-nil}
use Prim.Native.Nat.{ℕ, zero, suc, ◌+◌, ◌≤◌, ◌<◌}
use native.Mathlib.Nat.{not-suc-le-zero, le_of_suc-le-suc}
use native.Mathlib.Numerals.{add-one}
use native.Mathlib.Omega.{arith}
use borrow.Author.Fill.{fill_none, fill_more}
use lib.ListN.{length, get_or, set, drop, replicate, length-set}
use lib.Seq.{drop-length}
use Rattle.words.specs.Lists.{tabulate}

-- within a list, the default doesn't count
pub in_range : (l : List ℕ) (i d e : ℕ) → i < length l → get_or l i d ≡ get_or l i e
in_range [] i d e h = absurd (not-suc-le-zero h)
in_range (x ∷ l) zero d e h = refl
in_range (x ∷ l) (suc i) d e h = in_range l i d e (le_of_suc-le-suc h)

pub length-tabulate : (f : ℕ → ℕ) (n : ℕ) → length (tabulate f n) ≡ n
unfolding tabulate
length-tabulate f zero = refl
length-tabulate f (suc n) = ap suc (length-tabulate (λ k. f (suc k)) n)

pub get_tabulate : (f : ℕ → ℕ) (n k : ℕ) → k < n → get_or (tabulate f n) k 0 ≡ f k
unfolding tabulate
get_tabulate f zero k h = absurd (not-suc-le-zero h)
get_tabulate f (suc n) zero h = refl
get_tabulate f (suc n) (suc k) h = get_tabulate (λ k. f (suc k)) n k (le_of_suc-le-suc h)

pub tabulate_equal : (f g : ℕ → ℕ) (n : ℕ) → ((i : ℕ) → i < n → f i ≡ g i) → tabulate f n ≡ tabulate g n
unfolding tabulate
tabulate_equal f g zero h = refl
tabulate_equal f g (suc n) h = ap₂ (λ (x : ℕ) (l : List ℕ). x ∷ l) (h 0 (omega arith)) (tabulate_equal _ _ n (λ i l. h (suc i) (omega arith)))

-- ---- a loop that writes a list from the front, one store a turn: after n turns it is `tabulate f n ++ drop n d`
write_suc : (f : ℕ → ℕ) (n : ℕ) (d : List ℕ) → n < length d → set (tabulate f n ++ drop n d) n (f n) ≡ tabulate f (suc n) ++ drop (suc n) d
unfolding tabulate
write_suc f n [] l = absurd (not-suc-le-zero l)
write_suc f zero (x ∷ d) l = refl
write_suc f (suc n) (x ∷ d) l = ap (λ (t : List ℕ). f 0 ∷ t) (write_suc (λ k. f (suc k)) n d (le_of_suc-le-suc l))

pub write_more : (f : ℕ → ℕ) (n : ℕ) (d : List ℕ) → n < length d → set (tabulate f n ++ drop n d) n (f n) ≡ tabulate f (n + 1) ++ drop (n + 1) d
write_more f n d l = rw add-one (write_suc f n d l)

pub write_all : (f : ℕ → ℕ) (d : List ℕ) → tabulate f (length d) ++ drop (length d) d ≡ tabulate f (length d)
write_all f d = rw (drop-length d, append-nil)

-- ---- a loop that writes one number into every place, from the front

-- what it knows after n turns: the first n places hold v, the others what they held in d
pub record Spread (v : ℕ) (d now : List ℕ) (n : ℕ) : Type 0 where
  pub inside : n ≤ length d
  pub long : length now ≡ length d
  pub is : now ≡ replicate n v ++ drop n d

pub spread_none : (v : ℕ) (d : List ℕ) → Spread v d d 0
spread_none v d = record { inside = omega arith; long = refl; is = fill_none d v }

module _ (v : ℕ) (d now : List ℕ) (n : ℕ) (s : Spread v d now n) where
  -- one store more
  pub spread_more : n < length d → Spread v d (set now n v) (n + 1)
  spread_more l = record { inside = omega arith; long = length-set now n v ∙ s.long; is = rw s.is (fill_more n v d l) }

  -- and at the end v is everywhere
  pub spread_all : length d ≤ n → now ≡ replicate (length d) v
  spread_all h =
      let e : n ≡ length d = omega (arith, s.inside) in
      s.is ∙ rw (e, drop-length d, append-nil)
