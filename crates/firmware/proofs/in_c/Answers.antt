-- `firmware::in_c` meets its contract: 01's number and position of a judgement are what `answers` gives.
-- Assumes nothing.
use Rattle.firmware.proofs.in_c.Goals as goal

pub returns : goal.returns
returns c = simp (c.number_of.ensures, c.position_of.ensures)
