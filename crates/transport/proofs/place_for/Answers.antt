-- `transport::place_for` meets its contract: the holder's own row, or the lowest of nobody's. Assumes nothing.
use native.Mathlib.Omega.{arith}
use Rattle.transport.proofs.Frames.{own_place, free-place}
use Rattle.transport.proofs.place_for.Goals as goal

pub returns-in-Some-clause-number : goal.returns-in-Some-clause-number
returns-in-Some-clause-number c = own_place _ _ _ c.in-Some.ensures.number c.in-Some.ensures.below

pub returns-in-None-clause-number : goal.returns-in-None-clause-number
returns-in-None-clause-number c = free-place _ _ _ c.in-None.ensures.number (omega arith) _ c.row_with-in-None.ensures.number
