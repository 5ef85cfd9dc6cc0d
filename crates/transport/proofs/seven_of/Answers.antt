-- `transport::seven_of` meets its contract: the bytes behind the first, one after another. Assumes nothing.
use borrow.Author.Rules.{rules}
use Rattle.transport.proofs.Words.{seven_listed}
use Rattle.transport.proofs.seven_of.Goals as goal

pub returns : goal.returns
returns c = seven_listed c.args.d.now (search rules)
