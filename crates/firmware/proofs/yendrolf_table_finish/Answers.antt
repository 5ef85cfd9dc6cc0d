-- `firmware::yendrolf_table_finish` meets its contract: the promise of the room below, with the answer as C gets it.
-- Assumes nothing.
use Rattle.firmware.proofs.yendrolf_table_finish.Goals as goal

pub returns : goal.returns
returns c = simp c.in_c.ensures c.finish.ensures
