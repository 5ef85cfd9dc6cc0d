-- `lies_skipped`: what stands between the two runs of a parameter shares no bit with it. Assumes nothing.
use mathlib.Core.Path.{◌∙◌}
use mathlib.Core.Bool.{and-eq-true_iff}
use Prim.Native.Nat.{◌+◌}
use native.Mathlib.Omega.{arith}
use borrow.Author.Tests.{leb-true}
use lib.Dec.{leb}
use Rattle.places.proofs.Place.{whole, left-place, shares_skipped}
use Rattle.places.proofs.lies_skipped.Goals as goal

pub returns : goal.returns
returns c t =
    let a = c.args in
    let (low, high) = (and-eq-true_iff (leb (a.s1 + whole a.w1) a.s2) (leb c.end_bit.result c.left_bit.result)).0 t in
    shares_skipped a.s1 a.w1 a.s2 a.w2 (leb-true (a.s1 + whole a.w1) a.s2 low)
    (omega (arith, leb-true c.end_bit.result c.left_bit.result high, c.end_bit.ensures, c.left_bit.ensures ∙ left-place a.s1 a.w1))
