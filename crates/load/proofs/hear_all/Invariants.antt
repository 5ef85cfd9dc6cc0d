use Prim.Native.Nat.{◌+◌, ◌*◌, ◌-◌, ◌≤◌}
use mathlib.Core.Path.{◌≡◌}
use Rattle.image.specs.Write.{row_size, behind}
use Rattle.load.specs.Fed.{fed_rows, fed_frames}
use Rattle.load.proofs.hear_all.Given as goal

abbrev pub invariant-loop-i : goal.invariant-loop-i
invariant-loop-i l =
    (l.at + 155 * (l.count - l.i) ≤ 41567) × (fed_rows (row_size l.form) l.t l.image (behind l.form l.i) l.at (l.count - l.i) ≡ fed_frames l.initial.t l.image)
