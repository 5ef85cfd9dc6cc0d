-- `save::lay` meets its contract: where there is room, what the pieces made of the buffer is the image laid over its start. Assumes nothing.
use mathlib.Core.Path.{◌≡◌, ap}
use Prim.Native.Nat.{◌+◌}
use native.Mathlib.Omega.{arith}
use lib.ListN.{length}
use Rattle.image.specs.Write.{image_in}
use Rattle.save.proofs.Joined.{size_is, laid_in, laid-not}
use Rattle.save.proofs.lay.Goals as goal

pub put_image-requires : goal.put_image-requires
put_image-requires c =
    let e = c.choose-chosen.ensures in
    (e.0, omega (arith, ap length e.0, e.1, e.3))

pub returns-then-out-n : goal.returns-then-out-n
returns-then-out-n c =
    let counted : let a = c.args in c.behind.result + c.choose-chosen.result.bodies ≡ length (image_in a.form a.t.now) = let a = c.args in size_is a.form a.t.now _ _ _ c.choose-chosen.ensures.1 c.behind.ensures.0 c.choose-chosen.ensures.2 in
    let a = c.args in
    let e = counted in
    (e, laid-not a.form a.t.now a.out.now (omega (arith, e, c.if-out-n.true)))

pub returns : goal.returns
returns c =
    let counted : let a = c.args in c.behind.result + c.choose-chosen.result.bodies ≡ length (image_in a.form a.t.now) = let a = c.args in size_is a.form a.t.now _ _ _ c.choose-chosen.ensures.1 c.behind.ensures.0 c.choose-chosen.ensures.2 in
    let a = c.args in
    laid_in a.form a.t.now a.out.now _ _ (omega (arith, counted, c.if-out-n.false)) c.put_image.ensures
