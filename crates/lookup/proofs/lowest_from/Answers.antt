-- `lowest_from`: the best is that of the rows below i. Assumes nothing.
use mathlib.Core.Path.{◌≡◌, refl, ap, ◌∙◌}
use native.Mathlib.Omega.{arith}
use borrow.Author.Rules.{rules}
use Rattle.history.specs.History.{most_keys}
use Rattle.lookup.proofs.Lowest.{lowest_to, lowest-more, lowest-is}
use Rattle.lookup.proofs.lowest_from.Goals as goal

pub loop-i-init : goal.loop-i-init
unfolding lowest_to
loop-i-init c = refl

pub loop-i-preserved : goal.loop-i-preserved
loop-i-preserved c = lowest-more c.args.t.now (search rules) c.args.from c.loop-i.i _ _ (omega arith) c.loop-i.invariant c.nearer-best.ensures

pub returns : goal.returns
returns c =
    let a = c.args in
    let e : c.loop-i.i ≡ most_keys = omega arith in
    c.loop-i.invariant ∙ ap (lowest_to a.t.now a.from) e ∙ lowest-is a.t.now a.from
