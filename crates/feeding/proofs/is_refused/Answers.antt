-- `is_refused`: the code's tests are the definition's. Assumes nothing.
use Rattle.std.proofs.Common.{refl}
use Rattle.feeding.proofs.is_refused.Goals as goal

pub returns : goal.returns
returns c = refl
