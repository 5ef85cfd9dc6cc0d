-- `pairs::add_row` meets its contract: each answer by the tests on its way: 17, a PGN that is there, room for one more, 16. Assumes nothing.
use mathlib.Core.Path.{sym, ◌∙◌}
use Rattle.pairs.proofs.Answers.{listed-is, add_17, add_there, add-new, add_16}
use Rattle.pairs.proofs.add_row.Goals as goal

pub returns-then-ill_formed : goal.returns-then-ill_formed
returns-then-ill_formed c = add_17 _ _ c.ill_formed.ensures c.if-ill_formed.true

pub returns-then-is_some : goal.returns-then-is_some
returns-then-is_some c = add_there _ _ c.ill_formed.ensures c.if-ill_formed.false (sym (listed-is _ _ _ c.entry_of.ensures) ∙ sym c.is_some.ensures ∙ c.if-is_some.true)

pub returns-then-n-lt-ROOM : goal.returns-then-n-lt-ROOM
returns-then-n-lt-ROOM c =
    add-new _ _ c.ill_formed.ensures c.if-ill_formed.false c.count_of-n.ensures.0 (sym (listed-is _ _ _ c.entry_of.ensures) ∙ sym c.is_some.ensures ∙ c.if-is_some.false) c.if-n-lt-ROOM.true

pub returns : goal.returns
returns c =
    add_16 _ _ c.ill_formed.ensures c.if-ill_formed.false c.count_of-n.ensures.0 (sym (listed-is _ _ _ c.entry_of.ensures) ∙ sym c.is_some.ensures ∙ c.if-is_some.false) c.if-n-lt-ROOM.false
