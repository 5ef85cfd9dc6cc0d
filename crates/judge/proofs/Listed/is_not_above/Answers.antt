-- `is_not_above`: the first position has none before it, and every other is compared with the one before. Assumes nothing.
use mathlib.Core.Path.{sym, ap₂, ◌∙◌}
use lib.Dec.{leb}
use Rattle.judge.specs.Judge.{number_at}
use Rattle.judge.proofs.Search.{not_above-at, first_above}
use Rattle.judge.proofs.Listed.is_not_above.Goals as goal

pub returns-then-i-eq0 : goal.returns-then-i-eq0
returns-then-i-eq0 c = rw c.if-i-eq0.true (sym (first_above (number_at c.args.self.starts.now)))

pub returns : goal.returns
returns c =
    ap₂ leb c.number_at.ensures c.number_at-2.ensures ∙ not_above-at (number_at c.args.self.starts.now) c.args.i c.if-i-eq0.false
