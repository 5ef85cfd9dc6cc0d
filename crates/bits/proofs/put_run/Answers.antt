-- `put_run`: the mask has the run's places, and the number's bits stand there. Assumes nothing.
use native.Mathlib.Omega.{arith}
use Rattle.bits.proofs.Run.{run-masked, ones-few}
use Rattle.bits.proofs.put_run.Goals as goal

pub returns : goal.returns
returns c p =
    run-masked c.args.start c.args.width c.args.value p _ _ _ _ c.requires.0 c.ranges.value.fits c.touched.ensures
    (ones-few _ _ c.ones.ensures (omega (arith, c.requires.0))) (c.put_bytes.ensures p)
