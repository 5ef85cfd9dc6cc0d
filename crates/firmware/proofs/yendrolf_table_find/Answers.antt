-- `firmware::yendrolf_table_find` meets its contract: the promise of the room below, with what was found as C gets it.
-- Assumes nothing.
use mathlib.Core.Path.{◌∙◌}
use Rattle.firmware.proofs.yendrolf_table_find.Goals as goal

pub returns : goal.returns
returns c = c.found_in_c.ensures ∙ c.find.ensures
