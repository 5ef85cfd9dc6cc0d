-- `bridge::pair` meets its contract: the counters of the pair with that number, and what waits; or 15. Assumes nothing.
use mathlib.Core.Path.{◌∙◌}
use native.Mathlib.Omega.{arith}
use Rattle.ports.proofs.Numbers.{two}
use Rattle.bridge.specs.Bridge.{bridge}
use Rattle.bridge.proofs.Calls.{pair_two, pair-stands, pair_15}
use borrow.Author.Rules.{rules}
use Rattle.bridge.proofs.pair.Goals as goal

pub overflow_sub-to : goal.overflow_sub-to
overflow_sub-to c =
    let a = c.args in
    omega (arith, (two a.from a.to (pair_two a.from a.to _ (c.unwrap_or-i.ensures ∙ c.pair_of.ensures.number) c.if-i-lt12.true)).to-least)

pub returns-then-i-lt12 : goal.returns-then-i-lt12
returns-then-i-lt12 c =
    let a = c.args in
    pair-stands (bridge a.c.now a.q.now) a.from a.to _ (c.unwrap_or-i.ensures ∙ c.pair_of.ensures.number) c.if-i-lt12.true _ _ _ c.plainly.ensures c.at-counters.ensures c.waiting_from-waiting.ensures

pub returns : goal.returns
returns c =
    let a = c.args in
    pair_15 (bridge a.c.now a.q.now) a.from a.to _ (c.unwrap_or-i.ensures ∙ c.pair_of.ensures.number) c.if-i-lt12.false (search rules) _ _ c.plainly-2.ensures c.at-counters.ensures
