-- `bridge::fresh` meets its contract: both are all 0, as long as they are. Assumes nothing.
use Rattle.bridge.proofs.Calls.{all_fresh}
use borrow.Author.Rules.{rules}
use Rattle.bridge.proofs.fresh.Goals as goal

pub returns : goal.returns
returns c =
    let a = c.args in
    all_fresh a.c.now a.q.now _ _ c.clear.ensures c.clear-2.ensures (search rules) (search rules)
