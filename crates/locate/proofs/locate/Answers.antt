-- `locate::locate` meets its contract: the tests of the request one after another, and then what its destination makes of it. Assumes nothing.
use mathlib.Core.Path.{◌≡◌, sym, ap, ◌∙◌}
use Rattle.answers.specs.Answers.{plain}
use Rattle.message.specs.Fault.{fault_number, number_told}
use Rattle.message.proofs.Readings.{no_fault-is-0, none-told}
use Rattle.open.specs.Open.{width_for}
use Rattle.locate.proofs.Request.{at-frame, at_command, at_log, to_us, to_another}
use Rattle.locate.proofs.Laid.{no_message}
use Rattle.locate.proofs.locate.Goals as goal

pub returns-in-Some : goal.returns-in-Some
returns-in-Some c =
    let a = c.args in
    let bad = c.in-Some.fault in
    at-frame (width_for a.t.now) a.t.now a.own a.id a.len a.d.now a.log.now a.start _ c.split-f.ensures (fault_number bad) (sym (ap number_told c.in-Some.is) ∙ c.served_fault.ensures) (no_fault-is-0 bad) _
    (c.plainly.ensures ∙ ap plain c.from.ensures)

pub returns-then-d-ne0 : goal.returns-then-d-ne0
returns-then-d-ne0 c =
    let a = c.args in
    at_command (width_for a.t.now) a.t.now a.own a.id a.len a.d.now a.log.now a.start _ c.split-f.ensures _ c.served_fault.ensures (none-told _ c.in_default.not-Some) c.if-d-ne0.true _
    c.plainly-then-d-ne0.ensures

pub returns-then-is_ours : goal.returns-then-is_ours
returns-then-is_ours c =
    let a = c.args in
    at_log (width_for a.t.now) a.t.now a.own a.id a.len a.d.now a.log.now a.start _ c.split-f.ensures _ c.served_fault.ensures (none-told _ c.in_default.not-Some) c.if-d-ne0.false _ _
    c.answer_all.ensures
    (to_us (width_for a.t.now) a.t.now a.own a.id a.len a.d.now a.log.now a.start _ c.split-f.ensures _ c.destination.ensures _ c.is_ours.ensures c.if-is_ours.true _
    c.spn_asked-spn.ensures)

pub returns : goal.returns
returns c =
    let a = c.args in
    at_log (width_for a.t.now) a.t.now a.own a.id a.len a.d.now a.log.now a.start _ c.split-f.ensures _ c.served_fault.ensures (none-told _ c.in_default.not-Some) c.if-d-ne0.false _ _
    (no_message a.log.now a.start _ c.answer_none.ensures)
    (to_another (width_for a.t.now) a.t.now a.own a.id a.len a.d.now a.log.now a.start _ c.split-f.ensures _ c.destination.ensures _ c.is_ours.ensures c.if-is_ours.false)
