-- `replaying::put_kinds` meets its contract: a name, and four numbers with what stands behind each. Assumes nothing.
use Rattle.text.proofs.Laid.{next}
use Rattle.replaying.proofs.put_kinds.Goals as goal

pub returns : goal.returns
returns c = next c.bytes.ensures (next c.number.ensures (next c.number-2.ensures (next c.number-3.ensures c.number-4.ensures)))
