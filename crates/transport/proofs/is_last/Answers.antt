-- `transport::is_last` meets its contract: the definition itself. Assumes nothing.
use borrow.Author.Rules.{rules}
use Rattle.session.specs.Session.{is_last}
use Rattle.transport.proofs.is_last.Goals as goal

pub returns : goal.returns
unfolding is_last
returns c = search rules
