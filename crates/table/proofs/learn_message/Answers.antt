-- `learn_message`: the ways of the definition. Assumes nothing.
use borrow.Author.Rules.{rules}
use borrow.Author.Tests.{lt-ltb}
use Rattle.table.specs.Learn.{learn_message}
use Rattle.table.proofs.learn_message.Goals as goal

pub returns-in_err-learn_at : goal.returns-in_err-learn_at
unfolding learn_message
returns-in_err-learn_at c = simp (← c.key_number-number.ensures, ← c.form_number-form.ensures, ← c.cell_number-cell.ensures, ← c.in-Some.ensures.0, lt-ltb _ _ c.in-Some.ensures.1, ← c.in_err-learn_at.ensures) (search rules)

pub returns-in-Some : goal.returns-in-Some
unfolding learn_message
returns-in-Some c = simp (← c.key_number-number.ensures, ← c.form_number-form.ensures, ← c.cell_number-cell.ensures, ← c.in-Some.ensures.0, lt-ltb _ _ c.in-Some.ensures.1, ← c.in_ok-learn_at.ensures)

pub returns-in_default-free_slot : goal.returns-in_default-free_slot
unfolding learn_message
returns-in_default-free_slot c = simp (← c.key_number-number.ensures, ← c.in_default.ensures, ← c.in_default-free_slot.ensures)

pub returns : goal.returns
unfolding learn_message
returns c = simp (← c.key_number-number.ensures, ← c.form_number-form.ensures, ← c.cell_number-cell.ensures, ← c.in_default.ensures, ← c.in-Some-free_slot.ensures.0, lt-ltb _ _ c.in-Some-free_slot.ensures.1, ← c.new_at.ensures)
