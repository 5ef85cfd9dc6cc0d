-- `all_lie`: after i turns it is known whether one of the first i lies outside. Assumes nothing.
use mathlib.Core.Path.{◌≡◌, sym, ap}
use mathlib.Core.Bool.{not}
use native.Mathlib.Numerals.{add-one}
use native.Mathlib.Omega.{arith}
use lib.ListN.{length}
use Rattle.words.proofs.Lowest.{any-zero, any-more}
use Rattle.single.specs.Single.{all_lie}
use Rattle.single.proofs.all_lie.Invariants.{out}
use Rattle.single.proofs.all_lie.Goals as goal

pub loop-i-init : goal.loop-i-init
loop-i-init c = sym (any-zero _)

pub loop-i-preserved : goal.loop-i-preserved
loop-i-preserved c = rw (c.loop-i.invariant, c.lies_too.ensures, add-one) (sym (any-more (out c.args.starts.now c.args.widths.now) c.loop-i.i))

pub returns : goal.returns
unfolding all_lie
returns c = let e : c.loop-i.i ≡ length c.args.starts.now = omega arith in ap not (rw e at c.loop-i.invariant)
