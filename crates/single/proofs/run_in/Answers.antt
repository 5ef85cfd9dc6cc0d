-- `run_in`: a shift and a mask. Assumes nothing.
use mathlib.Core.Path.{ap, ◌∙◌}
use Prim.Native.Nat.{◌/◌, ◌^◌}
use native.Mathlib.Omega.{arith}
use lib.Bits.{bit_and, and_mask}
use Rattle.bits.proofs.Run.{ones-few}
use Rattle.single.proofs.run_in.Goals as goal

pub returns : goal.returns
returns c = let a = c.args in ap (bit_and (a.word / 2 ^ a.from)) (ones-few _ _ c.ones.ensures (omega (arith, c.requires.1))) ∙ and_mask (a.word / 2 ^ a.from) a.n
