-- `counters::at` meets its contract: the row that is lent, or no row. Assumes nothing.
use Rattle.std.proofs.Common.{◌∙◌, arith}
use Rattle.counters.proofs.Rows.{all_0, lent_read, none_read}
use Rattle.counters.proofs.at.Goals as goal
use Rattle.counters.proofs.at.Goals.{then-pair-w+in_default, else-pair-w}

pub returns-in-Some : goal.returns-in-Some
returns-in-Some c =
    let lent = c.split_at.ensures in
    lent_read _ _ c.if-pair-w.true lent.front lent.back c.in-Some.ensures.cases.same c.from.ensures

pub returns : goal.returns
returns c =
    let (a, (f, (q, (s, (t, r))))) = c.default.ensures in
    elim c.if-pair-w.branch [ then-pair-w+in_default w ↦ absurd (omega (arith, w.split_at.ensures.back_len, w.in_default.ensures.cases)) | else-pair-w w ↦ all_0 a f q s t r ∙ none_read _ _ w.if-pair-w.false ]
