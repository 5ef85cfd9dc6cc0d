-- `read_with`: 13 where there is no room for the states; else what payload's call told, with the states where it was done. Assumes nothing.
use Rattle.ask.proofs.Calls.{with_short, with_refused_lem, with_done}
use Rattle.ask.proofs.read_with.Goals as goal

pub returns-then-states-starts : goal.returns-then-states-starts
returns-then-states-starts c = with_short _ _ _ _ _ c.if-states-starts.true _ c.plainly.ensures

pub returns-then-answer-ne0 : goal.returns-then-answer-ne0
returns-then-answer-ne0 c = with_refused_lem _ _ _ _ _ c.if-states-starts.false _ _ c.told-answer.ensures _ c.read.ensures c.if-answer-ne0.true

pub returns : goal.returns
returns c = with_done _ _ _ _ _ c.if-states-starts.false _ _ c.told-answer.ensures _ c.read.ensures c.if-answer-ne0.false _ c.lay.ensures
