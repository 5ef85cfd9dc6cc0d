-- `save::cell_of` meets its contract: the definition's two cases. Assumes nothing.
use Rattle.save.proofs.Pieces.{cell_there, cell_none}
use Rattle.save.proofs.cell_of.Goals as goal

pub returns-then-p : goal.returns-then-p
returns-then-p c = cell_there c.args.row.now c.args.p c.if-p.true

pub returns : goal.returns
returns c = cell_none c.args.row.now c.args.p c.if-p.false
