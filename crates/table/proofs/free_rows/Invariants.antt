use mathlib.Core.Path.{◌≡◌}
use Rattle.table.specs.Forget.{free_to}
use Rattle.table.proofs.free_rows.Given as goal

abbrev pub invariant-loop-i : goal.invariant-loop-i
invariant-loop-i l = l.t ≡ free_to l.initial.t l.key l.i
