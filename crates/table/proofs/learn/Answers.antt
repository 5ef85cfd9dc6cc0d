-- `learn`: a refusal leaves the words; a message is learned, and has its place in a row. Assumes nothing.
use mathlib.Core.Path.{sym, ap, ◌∙◌}
use Rattle.message.specs.Message.{heard_of}
use Rattle.table.proofs.Frames.{refused, taken, storable}
use Rattle.table.proofs.learn.Goals as goal

pub learn_message-requires : goal.learn_message-requires
learn_message-requires c =
    let a = c.args in
    storable a.id a.len a.d.now _ (ap heard_of (sym c.in-Ok.is) ∙ c.decode.ensures)

pub returns-in-Ok-learn_message : goal.returns-in-Ok-learn_message
returns-in-Ok-learn_message c =
    let a = c.args in
    simp c.plainly.ensures (c.in-Ok-learn_message.ensures ∙ taken a.t.now a.id a.len a.d.now _ (ap heard_of (sym c.in-Ok.is) ∙ c.decode.ensures))

pub returns-in-Err-learn_message : goal.returns-in-Err-learn_message
returns-in-Err-learn_message c =
    let a = c.args in
    simp (c.plainly-in-Err-learn_message.ensures, c.from.ensures) (c.in-Err-learn_message.ensures ∙ taken a.t.now a.id a.len a.d.now _ (ap heard_of (sym c.in-Ok.is) ∙ c.decode.ensures))

pub returns-in-Err : goal.returns-in-Err
returns-in-Err c =
    let a = c.args in
    simp (c.plainly-in-Err.ensures, c.from-in-Err.ensures) (refused a.t.now a.id a.len a.d.now _ (ap heard_of (sym c.in-Err.is) ∙ c.decode.ensures))
