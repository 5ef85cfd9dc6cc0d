-- `new_at`: the part that is lent is row i, and comes back as a row that is put. Assumes nothing.
use borrow.Author.Rules.{rules}
use Rattle.words.proofs.Rows.{back_is-put}
use Rattle.keyrow.specs.Row.{row_words}
use Rattle.lookup.proofs.Words.{part_length}
use Rattle.table.proofs.new_at.Goals as goal

pub returns : goal.returns
returns c = simp (c.new_row.ensures, part_length c.args.t.now (search rules) _ c.requires, ← back_is-put row_words)
