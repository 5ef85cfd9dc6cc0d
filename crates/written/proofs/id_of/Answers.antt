-- `written::id_of` meets its contract: the addresses are bytes. Assumes nothing.
use borrow.Author.Rules.{rules}
use Rattle.written.specs.Written.{id_of}
use Rattle.written.proofs.id_of.Goals as goal

pub returns : goal.returns
unfolding id_of
returns c = search rules
