-- `replaying::put_pair` meets its contract: the line of what stands. Assumes nothing.
use Rattle.replaying.proofs.Finished.{line_laid}
use Rattle.replaying.proofs.put_pair.Goals as goal

pub returns : goal.returns
returns c = line_laid _ _ _ _ _ _ c.pair.ensures c.put_line.ensures
