-- `firmware::yendrolf_sessions_packet` meets its contract: the promise of the room below, with the answer as C gets it.
-- Assumes nothing.
use Rattle.firmware.proofs.yendrolf_sessions_packet.Goals as goal

pub returns : goal.returns
returns c = simp c.brought_in_c.ensures c.packet.ensures
