-- `queue::enter_row` meets its contract: behind the last, or not at all. Assumes nothing.
use Rattle.queue.proofs.Words.{enters, turned}
use Rattle.queue.proofs.enter_row.Goals as goal

pub returns-then-n-lt-ROOM : goal.returns-then-n-lt-ROOM
returns-then-n-lt-ROOM c = enters _ c.told-row _ _ c.count_of-n.ensures.0 c.if-n-lt-ROOM.true

pub returns : goal.returns
returns c = turned _ c.told-row _ _ c.count_of-n.ensures.0 c.if-n-lt-ROOM.false
