-- `transport::fresh` meets its contract: every word 0, as many as there are. Assumes nothing.
use Rattle.transport.proofs.Words.{all_nobodys}
use Rattle.transport.proofs.fresh.Goals as goal

pub returns : goal.returns
returns c = cc (all_nobodys c.args.heads.now c.told-heads)
