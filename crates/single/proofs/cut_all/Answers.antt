-- `cut_all`: after i turns the numbers of the first i parameters are cut out. Assumes nothing.
use mathlib.Core.Path.{◌≡◌, refl, ◌∙◌}
use native.Mathlib.Omega.{arith}
use lib.ListN.{length}
use Rattle.words.specs.Lists.{tabulate}
use Rattle.words.proofs.Lists.{write_more, write_all}
use Rattle.single.specs.Single.{numbers_of}
use Rattle.single.proofs.Cutting.{lies_at}
use Rattle.single.proofs.cut_all.Invariants.{at}
use Rattle.single.proofs.cut_all.Goals as goal

pub loop-i-init : goal.loop-i-init
unfolding tabulate
loop-i-init c = refl

pub cut-requires : goal.cut-requires
cut-requires c = lies_at c.args.starts.now c.args.widths.now c.requires.2 c.loop-i.i (omega arith)

pub loop-i-preserved : goal.loop-i-preserved
loop-i-preserved c =
    let a = c.args in rw (c.loop-i.invariant, c.cut.ensures) (write_more (at a.word a.starts.now a.widths.now) c.loop-i.i a.room.now (omega arith))

pub returns : goal.returns
unfolding numbers_of
returns c =
    let a = c.args in
    let e : c.loop-i.i ≡ length a.starts.now = omega arith in
    (rw e at c.loop-i.invariant) ∙ rw (← c.requires.1) (write_all (at a.word a.starts.now a.widths.now) a.room.now)
