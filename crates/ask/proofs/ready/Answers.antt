-- `ready`: the three cases of its definition. Assumes nothing.
use Rattle.ask.proofs.Calls.{ready_11, ready_12, ready_0}
use Rattle.ask.proofs.ready.Goals as goal

pub returns-then-answer-ne0 : goal.returns-then-answer-ne0
returns-then-answer-ne0 c = ready_11 _ c.if-answer-ne0.true

pub returns-then-number_of-ne0 : goal.returns-then-number_of-ne0
returns-then-number_of-ne0 c = ready_12 _ _ c.if-answer-ne0.false c.number_of.ensures _ c.if-number_of-ne0.true c.not_usable.ensures

pub returns : goal.returns
returns c = ready_0 _ _ c.if-answer-ne0.false c.number_of.ensures c.if-number_of-ne0.false
