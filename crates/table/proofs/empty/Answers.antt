-- `empty`: every word 0, as many as the table has. Assumes nothing.
use borrow.Author.Rules.{rules}
use Rattle.table.proofs.Words.{all_free}
use Rattle.table.proofs.empty.Goals as goal

pub returns : goal.returns
returns c = cc (all_free c.args.t.now (search rules))
