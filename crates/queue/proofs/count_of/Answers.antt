-- `queue::count_of` meets its contract: the first word, or 64 where it is more. Assumes nothing.
use Rattle.std.proofs.Common.{arith, ◌∙◌}
use Rattle.queue.proofs.Words.{count-min}
use Rattle.queue.proofs.count_of.Goals as goal

pub returns : goal.returns
returns c = (c.min.ensures ∙ count-min _, omega (arith, c.min.ensures))
