-- `splice::join_in` meets its contract: the second covers what the first left. Assumes nothing.
use native.Mathlib.Omega.{arith}
use Rattle.splice.proofs.Laws.{covered_next}
use Rattle.splice.proofs.join_in.Goals as goal

pub returns-then-n-dst : goal.returns-then-n-dst
returns-then-n-dst c =
    let a = c.args in
    covered_next a.dst.now a.first.now a.second.now _ _ (omega (arith, c.copy_in.auto.dst)) c.copy_in.auto.dst c.copy_in.ensures c.copy_in-then-n-dst.ensures
