-- `lists_of`: 11 and 12 by what opening the map answered, and the lists that it gave. Assumes nothing.
use Rattle.std.proofs.lemmas.Result.{err_from_is_err_and}
use Rattle.open.proofs.InHand.{answer-is, n-is, n_few, starts_are, widths_are}
use Rattle.ask.proofs.Calls.{ready_good, refused_is}
use Rattle.ask.proofs.lists_of.Goals as goal

pub returns-in_err-ready : goal.returns-in_err-ready
returns-in_err-ready c =
    let p = err_from_is_err_and c.from_residual.result c.from_residual.ensures.1 in
    rw (p.1, p.2) (refused_is _ _ _ (answer-is _ _ _ _ _ _ c.open-map.ensures) _ c.in_err-ready.ensures)

pub returns : goal.returns
returns c =
    let e = c.open-map.ensures in
    let u = ready_good _ _ _ (answer-is _ _ _ _ _ _ e) c.in_ok-ready.ensures in
    record {
      good = u;
      count = n-is _ _ _ _ _ _ e u;
      few = n_few _ _ _ _ _ _ e u;
      starts-are = starts_are _ _ _ _ _ _ e u;
      widths-are = widths_are _ _ _ _ _ _ e u;
    }
