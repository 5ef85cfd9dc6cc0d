-- `message::decode` meets its contract: what the identifier and the length refuse is refused at once; what they pass is decided by the bytes.
-- Assumes nothing.
use mathlib.Core.Path.{sym, ap, ap₂, ◌∙◌}
use Rattle.frame.specs.declared.Fields.{Fields}
use Rattle.frame.specs.Frame.{fields_of}
use Rattle.message.specs.declared.Wire.{Wire}
use Rattle.message.specs.Fault.{fault_number, number_told}
use Rattle.message.specs.Message.{wire_of, frame_tests, data_tests, heard_from, heard}
use Rattle.answers.specs.Tests.{first_number_of}
use Rattle.message.proofs.Readings.{no_fault-is-0}
use Rattle.message.proofs.Tests.{read_on, refused-at-once}
use Rattle.message.proofs.decode.Goals as goal

pub returns-in-Some : goal.returns-in-Some
unfolding heard
returns-in-Some c =
    let a = c.args in
    refused-at-once a.id a.len (fields_of a.id) (wire_of a.d.now) (fault_number c.in-Some.fault)
    (sym (ap number_told c.in-Some.is) ∙ c.frame_fault.ensures ∙ ap (λ (x : Fields). first_number_of (frame_tests a.id a.len x) 0) c.split-f.ensures)
    (no_fault-is-0 c.in-Some.fault)

pub returns-in-None : goal.returns-in-None
unfolding heard
returns-in-None c =
    let a = c.args in
    let f = c.split-f.ensures in
    c.from_wire.ensures
    ∙ ap₂ (λ (x : Fields) (w : Wire). heard_from (first_number_of (data_tests w) 0) x w) f c.from_bytes.ensures
    ∙ read_on a.id a.len (fields_of a.id) (wire_of a.d.now) (ap (λ (x : Fields). first_number_of (frame_tests a.id a.len x) 0) (sym f) ∙ sym c.frame_fault.ensures ∙ ap number_told c.in-None.is)
