-- `firmware::yendrolf_table_parameter_at` meets its contract: the promise of the room below, with the parameter as C gets it.
-- Assumes nothing.
use mathlib.Core.Path.{◌∙◌}
use Rattle.firmware.proofs.yendrolf_table_parameter_at.Goals as goal

pub returns : goal.returns
returns c = c.placed_in_c.ensures ∙ c.parameter_at.ensures
