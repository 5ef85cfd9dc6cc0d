-- `replaying::put_line` meets its contract: its ports, its counters, and what waits. Assumes nothing.
use Rattle.text.proofs.Laid.{next}
use Rattle.replaying.proofs.put_line.Goals as goal

pub returns : goal.returns
returns c = next c.number.ensures (next c.number-2.ensures (next c.put_six.ensures c.number-3.ensures))
