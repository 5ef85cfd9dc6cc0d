-- `record::write` meets its contract: a copy that had room, or none.
-- Assumes nothing.
use mathlib.Core.Path.{sym, ap, ◌∙◌}
use mathlib.Core.Bool.{Bool, cond}
use Rattle.answers.specs.Answers.{plain}
use Rattle.record.proofs.Laws.{lay}
use Rattle.record.proofs.write.Goals as goal

pub returns-then-copy_at : goal.returns-then-copy_at
returns-then-copy_at c =
    let a = c.args in
    lay _ _ a.s.now _ a.d.now a.id a.len c.copy_at.result c.bytes_of-b.ensures c.copy_at.ensures.value c.copy_at.ensures.dst_after
    (c.plainly.ensures ∙ ap (λ (b : Bool). plain (cond b 0 13)) (sym c.if-copy_at.true))

pub returns : goal.returns
returns c =
    let a = c.args in
    lay _ _ a.s.now _ a.d.now a.id a.len c.copy_at.result c.bytes_of-b.ensures c.copy_at.ensures.value c.copy_at.ensures.dst_after
    (c.plainly-2.ensures ∙ ap (λ (b : Bool). plain (cond b 0 13)) (sym c.if-copy_at.false))
