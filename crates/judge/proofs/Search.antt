-- Searches: what the lowest position is as an option, a list that contains a number, and the test for a start that is not above the one before. Assumes nothing.
use Prim.Native.Nat.{ℕ, zero, suc, ◌+◌, ◌-◌, ◌≤◌, ◌<◌}
use mathlib.Core.Path.{◌≡◌, refl, sym, ap, ◌∙◌}
use mathlib.Core.Bool.{Bool, true, false, ◌||◌}
use mathlib.Core.List.{List}
use native.Mathlib.Numerals.{add-one}
use native.Mathlib.Omega.{arith}
use lib.Dec.{eqb, leb}
use lib.ListN.{length, get_or, take}
use Rattle.std.proofs.Common.{Some, None}
use Rattle.std.specs.List.{list_any}
use Rattle.std.proofs.lemmas.List.Folds.{list_any_more}
use Rattle.words.specs.First.{any, lowest}
use Rattle.words.proofs.Lowest.{any-zero, any-more, lowest-at, lowest_none}
use Rattle.judge.specs.Judge.{not_above}
use Rattle.judge.specs.Walk.{found}

-- ---- the lowest position

module _ (t : ℕ → Bool) (n : ℕ) where
  -- the first that is picked stands at i
  pub found_at : (i : ℕ) → i < n → ((k : ℕ) → k < i → t k ≡ false) → t i ≡ true → Some (i + 1) ≡ found (lowest t n)
  found_at i l passed e = rw (lowest-at t n i l passed e, add-one)

  -- none is picked
  pub found_none : ((k : ℕ) → k < n → t k ≡ false) → None ≡ found (lowest t n)
  found_none passed = rw (lowest_none t n passed)

-- what such an answer says of the number
pub is_found : (p x : ℕ) → Some p ≡ found x → (p ≡ x) × (p ≡ 0 → ⊥)
is_found p zero e = cc
is_found p (suc x) e = let q : p ≡ suc x = cc in (q, λ z. omega (arith, q, z))

pub not_found : (x : ℕ) → None ≡ found x → x ≡ 0
not_found zero e = refl
not_found (suc x) e = cc

-- ---- a number that a list has

-- whether one of the first i is x
pub any_listed : (x : ℕ) (s : List ℕ) (i : ℕ) → i ≤ length s → list_any (λ y. eqb y x) (take i s) ≡ any (λ j. eqb (get_or s j 0) x) i
any_listed x s zero l = sym (any-zero _)
any_listed x s (suc i) l =
    ap (λ (k : ℕ). list_any (λ y. eqb y x) (take k s)) (sym (add-one i))
    ∙ list_any_more (λ y. eqb y x) s i 0 (omega arith)
    ∙ ap (λ (b : Bool). b || eqb (get_or s i 0) x) (any_listed x s i (omega arith))
    ∙ sym (any-more (λ j. eqb (get_or s j 0) x) i)

-- ---- a start that is not above the one before

-- a position and the one before it
before : (i : ℕ) → suc i - 1 ≡ i
before i = omega arith

pub not_above-at : (s : ℕ → ℕ) (i : ℕ) → (i ≡ 0 → ⊥) → leb (s i) (s (i - 1)) ≡ not_above s i
unfolding not_above
not_above-at s zero h = absurd (h refl)
not_above-at s (suc i) h = ap (λ (k : ℕ). leb (s (suc i)) (s k)) (before i)

-- the first position has none before it
pub first_above : (s : ℕ → ℕ) → not_above s 0 ≡ false
unfolding not_above
first_above s = refl
