-- `transport::lay_seven` meets its contract: row i is lent as a part, and comes back with the seven bytes in it. Assumes nothing.
use native.Mathlib.Omega.{arith}
use Rattle.transport.proofs.Words.{seven_laid}
use Rattle.transport.proofs.lay_seven.Goals as goal

pub returns : goal.returns
returns c =
    let a = c.args in
    seven_laid a.bytes.now c.told-bytes a.i c.requires.0 _ (omega arith) a.d.now _ c.seven_of-seven.ensures _ c.copy_at.ensures.dst_after
