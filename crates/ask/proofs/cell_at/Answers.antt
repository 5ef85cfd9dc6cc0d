-- `cell_at`: the definition's two cases, and whether something stands there. Assumes nothing.
use borrow.Author.Tests.{not-true, not-false}
use Rattle.ask.specs.Parts.{cell_at}
use Rattle.ask.proofs.cell_at.Goals as goal

pub returns-then-not-inside : goal.returns-then-not-inside
unfolding cell_at
returns-then-not-inside c = rw (not-true _ c.if-not-inside.true-raw)

pub returns-then-cell-eq0 : goal.returns-then-cell-eq0
unfolding cell_at
returns-then-cell-eq0 c = rw (not-false _ c.if-not-inside.false-raw) c.if-cell-eq0.true

pub returns : goal.returns
unfolding cell_at
returns c = (rw (not-false _ c.if-not-inside.false-raw), c.if-cell-eq0.false)
