-- `replaying::put_last` meets its contract: the kinds, and three numbers with what stands behind each. Assumes nothing.
use Rattle.replaying.specs.Lines.{last_line}
use Rattle.text.proofs.Laid.{next}
use Rattle.replaying.proofs.put_last.Goals as goal

pub returns : goal.returns
unfolding last_line
returns c = next c.put_kinds.ensures (next c.number.ensures (next c.number-2.ensures c.number-3.ensures))
