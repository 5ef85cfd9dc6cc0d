-- `transport::request` meets its contract: the tests of the frame, those of its data, and what the sessions make of it. Assumes nothing.
use mathlib.Core.Path.{refl, ap, ◌∙◌}
use Rattle.answers.specs.Answers.{plain}
use Rattle.transport.proofs.Frames.{number_by, refused-some, frame_refused, data_refused, asked}
use Rattle.transport.proofs.request.Goals as goal

pub returns-then-is_refused : goal.returns-then-is_refused
returns-then-is_refused c =
    let a = c.args in
    frame_refused a.heads.now a.id a.len a.d.now _ c.split-f.ensures _ c.is_refused.ensures c.if-is_refused.true _ (number_by _ _ _ _ _ c.split-f.ensures c.refused_as.ensures) _
    c.plainly.ensures

pub returns-in-Err : goal.returns-in-Err
returns-in-Err c =
    let a = c.args in
    data_refused a.heads.now a.id a.len a.d.now _ c.split-f.ensures _ c.is_refused.ensures c.if-is_refused.false _ c.in-Err.ensures (refused-some c.in-Err.refusal) _
    (c.plainly-in-Err.ensures ∙ ap plain c.number_said.ensures)

pub returns : goal.returns
returns c =
    let a = c.args in
    asked a.heads.now a.id a.len a.d.now _ c.split-f.ensures _ c.is_refused.ensures c.if-is_refused.false _ c.in_default.ensures refl _ _ _
    c.holder_in.ensures c.size_said.ensures c.pgn_said.ensures _ _ c.begin-begun.ensures _ (c.plainly-2.ensures ∙ ap plain c.number_said-2.ensures)
