-- `number_in`: what lies in eight bytes is cut out. Assumes nothing.
use mathlib.Core.Path.{sym, ◌∙◌}
use Rattle.single.proofs.Cutting.{there, cut_lies, cut_not}
use Rattle.single.proofs.number_in.Goals as goal

pub returns-then-not-lies_too : goal.returns-then-not-lies_too
returns-then-not-lies_too c = let a = c.args in sym (cut_not a.word a.start a.width (sym c.lies_too.ensures ∙ c.if-not-lies_too.true))

pub returns : goal.returns
returns c =
    let a = c.args in
    let p = there a.start a.width (sym c.lies_too.ensures ∙ c.if-not-lies_too.false) in
    c.cut.ensures ∙ sym (cut_lies a.word a.start a.width p.1 p.2)
