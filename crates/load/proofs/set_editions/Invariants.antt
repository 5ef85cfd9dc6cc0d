use Prim.Native.Nat.{◌+◌, ◌*◌, ◌-◌}
use mathlib.Core.Path.{◌≡◌}
use Rattle.image.specs.Read.{row_count}
use Rattle.load.specs.Fed.{fed_editions}
use Rattle.load.proofs.set_editions.Given as goal

abbrev pub invariant-loop-i : goal.invariant-loop-i
invariant-loop-i l = fed_editions l.t l.image (2 + 8 * l.i) (row_count l.image - l.i) ≡ fed_editions l.initial.t l.image 2 (row_count l.image)
