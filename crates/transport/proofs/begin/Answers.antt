-- `transport::begin` meets its contract: the session begins in the row that was found, or 30. Assumes nothing.
use native.Mathlib.Omega.{arith}
use Rattle.transport.proofs.Frames.{begun, is_30}
use Rattle.transport.proofs.begin.Goals as goal

pub returns-in_default : goal.returns-in_default
returns-in_default c = is_30 _ _ _ _ _ c.in_default.ensures.number (omega arith)

pub returns : goal.returns
returns c = begun _ _ _ _ _ c.in-Some.ensures.number c.in-Some.ensures.below _ c.open_at.ensures
