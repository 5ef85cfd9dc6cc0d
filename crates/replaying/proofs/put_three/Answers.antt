-- `replaying::put_three` meets its contract: three lines, one after the other. Assumes nothing.
use Rattle.text.proofs.Laid.{next}
use Rattle.replaying.proofs.put_three.Goals as goal

pub returns : goal.returns
returns c = next c.put_pair.ensures (next c.put_pair-2.ensures c.put_pair-3.ensures)
