-- `firmware::yendrolf_image_row` meets its contract: the promise of the room below, with the row as C gets it.
-- Assumes nothing.
use mathlib.Core.Path.{◌∙◌}
use Rattle.firmware.proofs.yendrolf_image_row.Goals as goal

pub returns : goal.returns
returns c = c.row_in_c.ensures ∙ c.row.ensures
