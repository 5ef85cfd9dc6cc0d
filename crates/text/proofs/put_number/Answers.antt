-- `text::put_number` meets its contract: two pieces, one after the other. Assumes nothing.
use Rattle.text.proofs.Pieces.{follow, one_piece}
use Rattle.text.proofs.put_number.Goals as goal

pub returns : goal.returns
returns c = follow _ _ _ _ _ (one_piece _ _ _ _ c.put_decimal-at.ensures) (one_piece _ _ _ _ c.put_bytes.ensures)
