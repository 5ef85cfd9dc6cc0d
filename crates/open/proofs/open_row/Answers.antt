-- `open_row`: the judgement and the lists of the row, and n and the flags of its form. Assumes nothing.
use mathlib.Core.Path.{ap}
use Rattle.message.specs.declared.Head.{Head}
use Rattle.open.proofs.InHand.{opened-row}
use Rattle.open.proofs.open_row.Goals as goal

pub returns : goal.returns
returns c =
    let h = c.head_of-head.ensures in
    let e = c.judge_row-was.ensures in
    opened-row _ _ _ _ _ _ _ _ _ _ _ _ _ c.judgement_is-answer.ensures e.0 c.judgement_of.ensures (ap (λ (x : Head). x.n) h) (ap (λ (x : Head). x.proprietary) h) (ap (λ (x : Head). x.transport) h)
    e.1 e.2 e.3
