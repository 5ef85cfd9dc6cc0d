-- `replaying::tally_of` meets its contract: the bytes behind the whole records. Assumes nothing.
use Rattle.record.proofs.Sized.{cut-is}
use Rattle.replaying.proofs.tally_of.Goals as goal

pub returns : goal.returns
returns c = let left = cut-is 14 c.args.s.now _ c.as_chunks.ensures.back in rw (c.joined-carry.ensures, left)
