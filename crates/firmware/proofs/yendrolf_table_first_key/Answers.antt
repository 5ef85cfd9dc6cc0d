-- `firmware::yendrolf_table_first_key` meets its contract: the promise of the room below, with the answer as C gets it.
-- Assumes nothing.
use mathlib.Core.Path.{ap, ◌∙◌}
use Rattle.firmware.specs.Told.{held_of}
use Rattle.firmware.proofs.yendrolf_table_first_key.Goals as goal

pub returns : goal.returns
returns c = c.key_in_c.ensures ∙ ap held_of c.first_key.ensures
