-- `shares_earlier`: none of those passed shares a bit with it, so one that does decides. Assumes nothing.
use mathlib.Core.Path.{sym}
use native.Mathlib.Omega.{arith}
use Rattle.words.proofs.Lowest.{any_at, any_none}
use Rattle.judge.proofs.Listed.shares_earlier.Goals as goal

pub returns-then-shares : goal.returns-then-shares
returns-then-shares c = sym (any_at _ _ _ c.loop-j-test.true cc)

pub returns : goal.returns
returns c = sym (any_none _ _ (λ k h. c.loop-j.invariant k (omega (arith, c.loop-j-test.false))))
