-- `put_last`: a name, and four numbers with what stands behind each. Assumes nothing.
use Rattle.listing.specs.Lines.{last_line}
use Rattle.text.proofs.Laid.{next}
use Rattle.listing.proofs.put_last.Goals as goal

pub returns : goal.returns
unfolding last_line
returns c = next c.bytes.ensures (next c.number.ensures (next c.number-2.ensures (next c.number-3.ensures c.number-4.ensures)))
