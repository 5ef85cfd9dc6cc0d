-- A walk over the held keys, turn by turn: what it still gives. Assumes nothing.
use Prim.Native.Nat.{ℕ, zero, suc, ◌-◌, ◌<◌}
use native.Mathlib.Numerals.{unary_clauses}
use native.Mathlib.Omega.{arith}
use mathlib.Core.Path.{◌≡◌, refl}
use mathlib.Core.Option.{Option, none, some}
use mathlib.Core.List.{List, [], ◌∷◌}
use Rattle.message.specs.declared.Key.{Key}
use Rattle.lookup.specs.Next.{next_key, walk}

module _ (t : List ℕ) where
  -- all turns are made
  pub all_made : (n : ℕ) (given : Option Key) → n ≡ 0 → walk n t given ≡ []
  unfolding walk
  all_made n given e = rw e

  -- no key more
  pub none_left : (n : ℕ) (given : Option Key) → given ≡ none → walk n t given ≡ []
  unfolding walk
  none_left zero given e = refl
  none_left (suc n) given e = rw e

  -- one key, and those above it
  pub one_turn : (n : ℕ) (k : Key) (given later : Option Key) → 0 < n → given ≡ some k → later ≡ next_key t k → walk n t given ≡ k ∷ walk (n - 1) t later
  unfolding walk
  one_turn zero k given later h e f = absurd (omega (arith, h))
  one_turn (suc n) k given later h e f = rw (e, f) (simp unary_clauses refl)
