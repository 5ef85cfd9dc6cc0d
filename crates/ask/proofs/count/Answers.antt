-- `count`: no row, a row in conflict, or the number of the row's form. Assumes nothing.
use mathlib.Core.Path.{sym, ap, ◌∙◌}
use borrow.Author.Rules.{rules}
use Rattle.message.specs.declared.Head.{Head}
use Rattle.judge.specs.Judge.{count_of}
use Rattle.lookup.proofs.KeyRow.{no_map, its_map}
use Rattle.keyrow.proofs.View.{row-held, row-conflict}
use Rattle.ask.proofs.count.Goals as goal

pub returns-in_default : goal.returns-in_default
returns-in_default c = sym (ap count_of (no_map _ _ c.in_default.ensures.1 c.in_default.ensures.0))

pub returns-then-row-ne-HELD : goal.returns-then-row-ne-HELD
returns-then-row-ne-HELD c =
    let row = c.in-Some.row.now in
    sym (ap count_of (its_map _ _ row (search rules) c.in-Some.ensures.0 ∙ row-conflict row c.if-row-ne-HELD.true))

pub returns : goal.returns
returns c =
    let row = c.in-Some.row.now in
    ap (λ (h : Head). h.n) c.head_of-head.ensures ∙ sym (ap count_of (its_map _ _ row (search rules) c.in-Some.ensures.0 ∙ row-held row c.if-row-ne-HELD.false))
