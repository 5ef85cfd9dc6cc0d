-- `lowest`: none of those passed is picked, so one that is has the lowest position. Assumes nothing.
use mathlib.Core.Path.{sym, ◌∙◌}
use native.Mathlib.Omega.{arith}
use Rattle.judge.proofs.Search.{found_at, found_none}
use Rattle.judge.proofs.lowest.Goals as goal

pub returns-then-picks : goal.returns-then-picks
returns-then-picks g c = λ t h.
    found_at t c.args.n c.loop-i.i c.loop-i-test.true (λ k m. sym (h k _ (omega (arith, c.loop-i-test.true)) (c.loop-i.invariant k m)))
    (sym (h c.loop-i.i _ c.loop-i-test.true c.picks.ensures) ∙ c.if-picks.true)

pub returns : goal.returns
returns g c = λ t h. found_none t c.args.n (λ k m. sym (h k _ m (c.loop-i.invariant k (omega (arith, c.loop-i-test.false)))))
