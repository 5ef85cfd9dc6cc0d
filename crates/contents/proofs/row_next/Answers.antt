-- `contents::row_next` meets its contract. Assumes nothing.
use native.Mathlib.Omega.{arith}
use Rattle.image.proofs.Part.{row_inside}
use Rattle.contents.proofs.Rows.{answered_there, answered-not, next_there, next-not}
use Rattle.contents.proofs.row_next.Goals as goal

pub returns-then-answer-ne0 : goal.returns-then-answer-ne0
returns-then-answer-ne0 c = next-not _ _ (answered-not _ _ _ c.row_asked-answer.ensures c.if-answer-ne0.true)

pub overflow_add-result : goal.overflow_add-result
overflow_add-result c = omega (arith, (row_inside _ _ (answered_there _ _ _ c.row_asked-answer.ensures c.if-answer-ne0.false)).0)

pub returns : goal.returns
returns c = next_there _ _ (answered_there _ _ _ c.row_asked-answer.ensures c.if-answer-ne0.false)
