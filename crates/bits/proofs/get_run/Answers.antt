-- `get_run`: the run is cut out of the bytes that it lies in. Assumes nothing.
use native.Mathlib.Omega.{arith}
use Rattle.bits.proofs.Run.{run_got, ones-few}
use Rattle.bits.proofs.get_run.Goals as goal

pub returns : goal.returns
returns c = (run_got c.args.payload.now c.args.start c.args.width _ _ _ c.requires.0 c.touched.ensures (ones-few _ _ c.ones.ensures (omega (arith, c.requires.0))) c.get_bytes-sum.ensures).0
