-- `put_line`: six numbers, one after the other. Assumes nothing.
use Rattle.text.proofs.Laid.{next}
use Rattle.listing.proofs.put_line.Goals as goal

pub returns : goal.returns
returns c = next c.number.ensures (next c.number-2.ensures (next c.number-3.ensures (next c.number-4.ensures (next c.number-5.ensures c.number-6.ensures))))
