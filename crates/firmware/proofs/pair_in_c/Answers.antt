-- `firmware::pair_in_c` meets its contract: its answer as C gets it, beside the same numbers.
-- Assumes nothing.
use Rattle.firmware.proofs.pair_in_c.Goals as goal

pub returns : goal.returns
returns c = simp c.in_c.ensures
