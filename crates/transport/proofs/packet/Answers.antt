-- `transport::packet` meets its contract: the tests of the frame, no session, or what the row of its holder makes of it. Assumes nothing.
use mathlib.Core.Path.{◌∙◌}
use Rattle.transport.specs.Rows.{memory}
use Rattle.transport.proofs.Frames.{number_by, packet_refused, its_packet, is_28}
use native.Mathlib.Omega.{arith}
use Rattle.transport.proofs.packet.Goals as goal

pub returns-then-is_refused : goal.returns-then-is_refused
returns-then-is_refused c =
    let a = c.args in
    packet_refused (memory a.heads.now a.bytes.now) a.out.now a.id a.len a.d.now _ c.split-f.ensures _ c.is_refused.ensures c.if-is_refused.true _
    (number_by _ _ _ _ _ c.split-f.ensures c.refused_as.ensures) _ _ c.briefly.ensures.0 c.briefly.ensures.1

pub returns : goal.returns
returns c =
    let a = c.args in
    c.take_at.ensures
    ∙ its_packet (memory a.heads.now a.bytes.now) a.out.now a.id a.len a.d.now _ c.split-f.ensures _ c.is_refused.ensures c.if-is_refused.false _ c.holder_in.ensures _
    c.in-Some.ensures.number c.in-Some.ensures.below

pub returns-in_default : goal.returns-in_default
returns-in_default c =
    let a = c.args in
    is_28 (memory a.heads.now a.bytes.now) a.out.now a.id a.len a.d.now _ c.split-f.ensures _ c.is_refused.ensures c.if-is_refused.false _ c.holder_in.ensures _
    c.in_default.ensures.number (omega arith) _ _ c.briefly-in_default.ensures.0 c.briefly-in_default.ensures.1
