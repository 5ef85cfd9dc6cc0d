use Prim.Native.Nat.{ℕ, ◌+◌, ◌≤◌, ◌<◌}
use mathlib.Core.Path.{◌≡◌}
use mathlib.Core.Bool.{Bool, false}
use mathlib.Core.List.{List}
use lib.Dec.{eqb}
use lib.ListN.{get_or}
use Rattle.keyrow.specs.View.{place_of, spn_there}
use Rattle.locate.proofs.mentions.Given as goal

-- word i of the row, as a cell, has the SPN
abbrev has : List ℕ → ℕ → ℕ → Bool
has row spn i = eqb (spn_there (place_of (get_or row i 0))) spn

abbrev pub invariant-loop-i : goal.invariant-loop-i
invariant-loop-i l = (3 ≤ l.i) × ((k : ℕ) → 3 + k < l.i → has l.row l.spn (3 + k) ≡ false)
