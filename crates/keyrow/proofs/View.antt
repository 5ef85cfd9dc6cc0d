-- The map of a row, by its state: what every call that asks the table goes by. On any words. Assumes nothing.
use mathlib.Core.Path.{◌≡◌}
use mathlib.Core.Bool.{false}
use mathlib.Core.List.{List}
use Prim.Native.Nat.{ℕ, ◌-◌, ◌%◌, ◌/◌, ◌^◌}
use borrow.Author.Tests.{eq-eqb, ne_eqb, eqb-true}
use lib.Dec.{eqb}
use Rattle.words.proofs.Tests.{test}
use Rattle.maps.specs.Maps.{Conflict, is_nothing}
use Rattle.keyrow.specs.Row.{state_word}
use Rattle.keyrow.specs.View.{place_of, spn_there, start_there, row_as, row_map}

pub row-held : (r : List ℕ) → state_word r ≡ 1 → row_map r ≡ row_as r
unfolding row_map
row-held r e = rw (eq-eqb (state_word r) 1 e)

pub row-conflict : (r : List ℕ) → (state_word r ≡ 1 → ⊥) → row_map r ≡ Conflict
unfolding row_map
row-conflict r ne = rw (ne_eqb (state_word r) 1 ne)

-- a row that is not free holds something
pub row_something : (r : List ℕ) → is_nothing (row_map r) ≡ false
unfolding row_map
row_something r = test (eqb (state_word r) 1) (λ e. rw e) (λ n. rw n)

-- SPN and start of any cell: of 0, at which nothing stands, 1 less is 0
pub spn_there_lem : (cell : ℕ) → (cell - 1) % 2 ^ 32 ≡ spn_there (place_of cell)
spn_there_lem cell = test (eqb cell 0) (λ e. rw (eqb-true cell 0 e)) (λ n. rw n)

pub start_there_lem : (cell : ℕ) → (cell - 1) / 2 ^ 32 ≡ start_there (place_of cell)
start_there_lem cell = test (eqb cell 0) (λ e. rw (eqb-true cell 0 e)) (λ n. rw n)
