-- `learn_at`: the part that is lent is row i, and comes back as a row that is put. Assumes nothing.
use Rattle.words.proofs.Rows.{part_is-row, back_is-put}
use Rattle.keyrow.specs.Row.{row_words}
use Rattle.table.proofs.learn_at.Goals as goal

pub returns : goal.returns
returns c = simp (← part_is-row row_words, ← c.learn_row.ensures, ← back_is-put row_words)
