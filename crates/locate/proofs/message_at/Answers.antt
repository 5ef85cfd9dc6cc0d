-- `locate::message_at` meets its contract: n and the flags of the row, and the start at the position. Assumes nothing.
use Rattle.locate.proofs.Finding.{message_made}
use Rattle.locate.proofs.message_at.Goals as goal

pub returns : goal.returns
returns c = let a = c.args in message_made _ a.t.now a.asked.spn a.key a.position _ c.head_of-head.ensures _ c.parameter_at-there.ensures
