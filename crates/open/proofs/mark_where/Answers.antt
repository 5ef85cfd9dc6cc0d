-- `mark_where`: where no cell is empty no width is marked. Assumes nothing.
use mathlib.Core.Path.{sym, ◌∙◌}
use native.Mathlib.Omega.{arith}
use Rattle.open.proofs.Unfolded.{none_marked}
use Rattle.open.proofs.mark_where.Goals as goal

pub returns-else-empty : goal.returns-else-empty
returns-else-empty c = none_marked c.args.row.now c.args.widths.now c.args.n (omega (arith, c.requires.0)) (sym c.requires.1 ∙ c.if-empty.false)
