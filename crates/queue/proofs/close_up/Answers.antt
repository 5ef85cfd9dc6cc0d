-- `queue::close_up` meets its contract: the words behind the place have moved, and the count is less by one. Assumes nothing.
use Rattle.queue.proofs.Words.{all_moved}
use Rattle.queue.proofs.close_up.Goals as goal

pub returns : goal.returns
returns c = all_moved c.args.row.now c.args.k _ _ c.count_of-n.ensures.0 c.copy_within.ensures.after
