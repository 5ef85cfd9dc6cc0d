-- `firmware::yendrolf_sessions_request` meets its contract: the promise of the room below, with the answer as C gets it.
-- Assumes nothing.
use Rattle.firmware.proofs.yendrolf_sessions_request.Goals as goal

pub returns : goal.returns
returns c = simp c.in_c.ensures c.request.ensures
