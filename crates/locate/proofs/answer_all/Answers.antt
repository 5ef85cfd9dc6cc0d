-- `locate::answer_all` meets its contract: too short for what was counted, or all of it is laid. Assumes nothing.
use mathlib.Core.Path.{sym, ap, ◌∙◌}
use mathlib.Core.List.{List}
use Rattle.text.specs.Text.{page, put_all}
use Rattle.message.specs.declared.Message.{Message}
use Rattle.open.specs.Open.{width_for}
use Rattle.locate.specs.Locate.{located}
use Rattle.locate.specs.Parts.{pieces_of}
use Rattle.locate.proofs.Laid.{out_of_room, in_room}
use Rattle.locate.proofs.answer_all.Goals as goal

pub returns-then-is_short : goal.returns-then-is_short
returns-then-is_short c =
    let a = c.args in
    out_of_room (located (width_for a.t.now) a.t.now a.asked.own a.asked.spn) a.log.now a.start c.look_all-told.result.count
    c.look_all-told.ensures.1 _ (sym c.is_short.ensures ∙ c.if-is_short.true) c.plainly.ensures

pub returns : goal.returns
returns c =
    let a = c.args in
    in_room (located (width_for a.t.now) a.t.now a.asked.own a.asked.spn) a.log.now a.start c.look_all-told.result.count
    c.look_all-told.ensures.1 _ (sym c.is_short.ensures ∙ c.if-is_short.false) c.with_detail.ensures
    _ (c.put_all.ensures ∙ ap (λ (ms : List Message). put_all (page a.start a.log.now) (pieces_of ms)) c.look_all-told.ensures.0)
