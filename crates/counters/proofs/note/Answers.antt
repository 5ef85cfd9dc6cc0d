-- `counters::note` meets its contract: the row that is lent comes back as a row that is put; no row has the number. Assumes nothing.
use Rattle.counters.proofs.Rows.{lent-noted, none_noted}
use Rattle.counters.proofs.note.Goals as goal

pub returns-in-Some : goal.returns-in-Some
returns-in-Some c =
    let lent = c.split_at_mut-rest.ensures in
    lent-noted _ _ c.if-pair-w.true lent.front lent.back c.in-Some.ensures.cases.same _ c.note_row.ensures

pub returns-else-pair-w : goal.returns-else-pair-w
returns-else-pair-w c = none_noted _ _ _ c.if-pair-w.false
