-- `firmware::yendrolf_hire_line` meets its contract: the promise of the room below, with the line as C gets it.
-- Assumes nothing.
use mathlib.Core.Path.{◌∙◌}
use Rattle.firmware.proofs.yendrolf_hire_line.Goals as goal

pub returns : goal.returns
returns c = c.line_in_c.ensures ∙ c.line_of.ensures
