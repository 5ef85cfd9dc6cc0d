-- `record::read` meets its contract: by the test of the length. Assumes nothing.
use borrow.Author.Tests.{lt-ltb, le-ltb}
use Rattle.record.specs.Record.{record_in}
use Rattle.record.proofs.read.Goals as goal

pub returns-in-len13-up : goal.returns-in-len13-up
unfolding record_in
returns-in-len13-up c = simp (le-ltb _ _ c.in-len13-up.len_at_least, c.from_le_bytes.ensures)

pub returns : goal.returns
unfolding record_in
returns c = simp (lt-ltb _ _ c.in_default.len_below)
