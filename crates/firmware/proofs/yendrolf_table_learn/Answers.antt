-- `firmware::yendrolf_table_learn` meets its contract: a frame of another PGN is refused at once; for any other frame the promise of the
-- room below, with the answer as C gets it.
-- Assumes nothing.
use mathlib.Core.Path.{refl, sym, ap, ◌∙◌}
use borrow.Author.Tests.{eqb-false}
use Rattle.frame.specs.declared.Fields.{Fields}
use Rattle.frame.specs.Frame.{fields_of}
use Rattle.message.specs.declared.Fault.TheVariants.{OtherPgn}
use Rattle.message.specs.Fault.{fault_number, number_told}
use Rattle.message.specs.Message.{wire_of, frame_tests, heard}
use Rattle.answers.specs.Tests.{first_number_of}
use Rattle.message.proofs.Tests.{refused-at-once}
use Rattle.table.proofs.Frames.{refused}
use Rattle.firmware.proofs.yendrolf_table_learn.Goals as goal

pub returns-in-Some-OtherPgn : goal.returns-in-Some-OtherPgn
unfolding heard
returns-in-Some-OtherPgn c =
    let a = c.args in
    simp (c.in_c.ensures, c.plainly.ensures)
    (refused a.t.now a.id a.len a.d.now OtherPgn
    (refused-at-once a.id a.len (fields_of a.id) (wire_of a.d.now) 2
    (sym (ap fault_number c.in-Some-OtherPgn.field-0-is) ∙ sym (ap number_told c.in-Some-OtherPgn.is) ∙ c.frame_fault.ensures ∙ ap (λ (x : Fields). first_number_of (frame_tests a.id a.len x) 0) c.split.ensures)
    (eqb-false 2 0 refl)))

pub returns : goal.returns
returns c = simp c.in_c-2.ensures c.learn.ensures
