-- `pairs::count_of` meets its contract: the second word, or 32 where it is more. Assumes nothing.
use native.Mathlib.Omega.{arith}
use Rattle.pairs.proofs.Answers.{least}
use Rattle.pairs.proofs.count_of.Goals as goal

pub returns : goal.returns
returns c = (least _ _ c.min.ensures, omega (arith, c.min.ensures))
