-- `queue::waiting_from` meets its contract: the row that is lent, or no row. Assumes nothing.
use Rattle.std.proofs.Common.{ap, ◌∙◌}
use Rattle.queue.specs.Row.{how_many}
use Rattle.queue.proofs.Rows.{lent-waiting, none_waiting}
use Rattle.queue.proofs.waiting_from.Goals as goal

pub returns-in-Some : goal.returns-in-Some
returns-in-Some c =
    let lent = c.split_at.ensures in
    lent-waiting _ _ c.if-port-q.true lent.front lent.back c.in-Some.ensures.cases.same c.args.from (c.count_from.ensures ∙ ap (how_many c.args.from) c.waiting.ensures.0)

pub returns-else-port-q : goal.returns-else-port-q
returns-else-port-q c = none_waiting _ _ c.if-port-q.false _
