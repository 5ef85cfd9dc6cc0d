-- `with_run`: the mask has the run's places, and the number's bits stand there. Assumes nothing.
use native.Mathlib.Omega.{arith}
use borrow.Author.Rules.{rules}
use Rattle.bits.proofs.Run.{ones-few}
use Rattle.single.proofs.Laying.{run-laid}
use Rattle.single.proofs.with_run.Goals as goal

pub returns : goal.returns
returns c = run-laid c.args.word c.args.from c.args.n c.args.value _ _ c.requires.2 (ones-few _ _ c.ones.ensures (omega (arith, c.requires.1))) (search rules) c.merge.ensures
