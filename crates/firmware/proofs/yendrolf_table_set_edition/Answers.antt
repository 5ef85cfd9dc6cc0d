-- `firmware::yendrolf_table_set_edition` meets its contract: the promise of the room below, with the answer as C gets it.
-- Assumes nothing.
use Rattle.firmware.proofs.yendrolf_table_set_edition.Goals as goal

pub returns : goal.returns
returns c = simp c.in_c.ensures c.set_edition.ensures
