-- `firmware::brought_in_c` meets its contract: its answer as C gets it, beside the same PGN.
-- Assumes nothing.
use Rattle.firmware.proofs.brought_in_c.Goals as goal

pub returns : goal.returns
returns c = simp c.in_c.ensures
