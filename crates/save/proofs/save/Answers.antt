-- `save::save` meets its contract: 13 exactly where the image is longer than the buffer. Assumes nothing.
use native.Mathlib.Omega.{arith}
use Rattle.save.proofs.Joined.{save_13, save_0}
use Rattle.save.proofs.save.Goals as goal

pub returns-then-room-n : goal.returns-then-room-n
returns-then-room-n c =
    let a = c.args in
    save_13 a.t.now a.out.now _ _ c.plainly.ensures (omega (arith, c.lay-n.ensures.0, c.if-room-n.true)) c.lay-n.ensures.1

pub returns : goal.returns
returns c =
    let a = c.args in
    save_0 a.t.now a.out.now _ _ c.plainly-2.ensures (omega (arith, c.lay-n.ensures.0, c.if-room-n.false)) c.lay-n.ensures.1
