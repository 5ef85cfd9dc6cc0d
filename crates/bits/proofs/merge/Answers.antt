-- `merge`: bit by bit, from the one or the other. Assumes nothing.
use Rattle.bits.proofs.Run.{merged}
use Rattle.bits.proofs.merge.Goals as goal

pub returns : goal.returns
returns c j l = merged c.args.word c.args.mask c.args.bits j c.ranges.mask.fits l
