-- The row that is found: it holds the key, and no row below it does; where a row holds the key, one is found. On any words. Assumes nothing.
use Prim.Native.Nat.{ℕ, ◌<◌}
use native.Mathlib.Omega.{arith}
use native.Mathlib.Decide.{dec_lt}
use mathlib.Core.Path.{◌≡◌}
use mathlib.Core.Bool.{true, false}
use mathlib.Core.List.{List}
use borrow.Author.Tests.{eqb-true}
use lib.Dec.{eqb}
use Rattle.words.proofs.First.{first_holds}
use Rattle.words.proofs.Slots.{at_slot, below-slot}
use Rattle.words.proofs.Tests.{never}
use Rattle.history.specs.History.{most_keys}
use Rattle.keyrow.specs.Row.{state_word, row_is}
use Rattle.lookup.specs.Layout.{row_of, slot_of, free_slot}

module _ (t : List ℕ) (a : ℕ) where
  pub is_at : slot_of t a < most_keys → row_is (row_of t (slot_of t a)) a ≡ true
  unfolding slot_of
  is_at = at_slot row_is most_keys (row_of t) a

  pub under : (k : ℕ) → k < slot_of t a → row_is (row_of t k) a ≡ false
  unfolding slot_of
  under = below-slot row_is most_keys (row_of t) a

-- where a row holds the key, a row is found
pub found : (t : List ℕ) (a j : ℕ) → j < most_keys → row_is (row_of t j) a ≡ true → slot_of t a < most_keys
found t a j l h =
    elim (dec_lt (slot_of t a) most_keys) [
      | yes s ↦ s
      | no s ↦ never h (under t a j (omega arith))
    ]

-- the row that is given to a new key is free
pub free-at : (t : List ℕ) → free_slot t < most_keys → state_word (row_of t (free_slot t)) ≡ 0
unfolding free_slot
free-at t h = eqb-true _ 0 (first_holds (λ i. eqb (state_word (row_of t i)) 0) most_keys h)
