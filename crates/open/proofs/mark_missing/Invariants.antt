use mathlib.Core.Path.{◌≡◌}
use Rattle.open.specs.Unfolded.{marked_to}
use Rattle.open.proofs.mark_missing.Given as goal

abbrev pub invariant-loop-i : goal.invariant-loop-i
invariant-loop-i l = l.widths ≡ marked_to l.row l.i l.initial.widths
