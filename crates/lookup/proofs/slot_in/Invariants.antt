use mathlib.Core.Path.{◌≡◌}
use mathlib.Core.Bool.{false}
use Prim.Native.Nat.{ℕ, ◌<◌}
use Rattle.keyrow.specs.Row.{row_is}
use Rattle.lookup.specs.Layout.{row_of}
use Rattle.lookup.proofs.slot_in.Given as goal

abbrev pub invariant-loop-i : goal.invariant-loop-i
invariant-loop-i l = (k : ℕ) → k < l.i → row_is (row_of l.t k) l.key ≡ false
