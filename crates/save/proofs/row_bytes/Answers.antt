-- `row_bytes`: the eight bytes. Assumes nothing.
use borrow.Author.Rules.{rules}
use Rattle.image.specs.Write.{full_row}
use Rattle.save.proofs.row_bytes.Goals as goal

pub returns : goal.returns
unfolding full_row
returns c = search rules
