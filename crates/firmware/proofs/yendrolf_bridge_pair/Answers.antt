-- `firmware::yendrolf_bridge_pair` meets its contract: the promise of the room below, with the answer as C gets it.
-- Assumes nothing.
use mathlib.Core.Path.{◌∙◌}
use Rattle.firmware.proofs.yendrolf_bridge_pair.Goals as goal

pub returns : goal.returns
returns c = c.pair_in_c.ensures ∙ c.pair.ensures
