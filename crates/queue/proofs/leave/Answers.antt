-- `queue::leave` meets its contract: the row that is lent comes back as a row that is put; no row has the number. Assumes nothing.
use Rattle.queue.proofs.Rows.{lent_leaves, none_leaves}
use Rattle.queue.proofs.leave.Goals as goal

pub returns-in-Some : goal.returns-in-Some
returns-in-Some c =
    let lent = c.split_at_mut-rest.ensures in
    lent_leaves _ _ c.if-port-q.true lent.front lent.back c.in-Some.ensures.cases.same _ c.leave_row.ensures

pub returns-else-port-q : goal.returns-else-port-q
returns-else-port-q c = none_leaves _ _ c.if-port-q.false
