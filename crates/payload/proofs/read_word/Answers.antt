-- `read_word`: what is taken out of one number is what reading makes; where nothing is taken the room is as it was. Assumes nothing.
use mathlib.Core.Path.{sym, ◌∙◌}
use Rattle.single.proofs.Cutting.{not_taken}
use Rattle.payload.proofs.OneWord.{short_read}
use Rattle.payload.proofs.read_word.Goals as goal

pub returns-then-not-numbers_in : goal.returns-then-not-numbers_in
returns-then-not-numbers_in c =
    let a = c.args in
    c.numbers_in.ensures.1 ∙ sym (not_taken c.word_of.result a.starts.now a.widths.now a.room.now (sym c.numbers_in.ensures.0 ∙ c.if-not-numbers_in.true))

pub returns : goal.returns
returns c =
    let a = c.args in
    rw c.numbers_in.ensures.1
    (short_read a.starts.now a.widths.now a.eight.now a.room.now _ (c.may_be_short.ensures c.if-not-may_be_short.false).0 c.told-eight
    c.word_of.ensures.0 (sym c.numbers_in.ensures.0 ∙ c.if-not-numbers_in.false))
