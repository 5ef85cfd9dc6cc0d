-- `transport::take_at` meets its contract: out of sequence, one packet more, or the last one. In each answer n is where the packet was found to be the next one or not, y
-- the branch on that, v where its bytes were laid, l where it was found to be the last one or not, t the branch on that, and s the start. Assumes nothing.
use mathlib.Core.Path.{refl, sym, ◌∙◌}
use native.Mathlib.Omega.{arith}
use Rattle.transport.specs.Rows.{memory}
use Rattle.transport.proofs.Packets.{seven_room, size_room, at_29, at_more, at_last}
use Rattle.transport.proofs.take_at.Goals as goal

pub lay_seven-requires : goal.lay_seven-requires
lay_seven-requires c = (c.requires, (seven_room _ _ (sym c.is_next.ensures ∙ c.if-is_next.true)).0)

pub hand_out-requires : goal.hand_out-requires
hand_out-requires c = (c.requires, size_room _ _ _ (sym c.is_next.ensures ∙ c.if-is_next.true) (sym c.is_last.ensures ∙ c.if-is_last.true))

pub overflow_cast-size : goal.overflow_cast-size
overflow_cast-size c = omega (arith, size_room _ _ _ (sym c.is_next.ensures ∙ c.if-is_next.true) (sym c.is_last.ensures ∙ c.if-is_last.true))

pub returns-then-is_last : goal.returns-then-is_last
returns-then-is_last c =
    let a = c.args in
    at_last (memory a.heads.now a.bytes.now) c.told-heads c.told-bytes a.out.now a.i c.requires a.d.now _ c.is_next.ensures c.if-is_next.true _ c.lay_seven.ensures _
    c.is_last.ensures c.if-is_last.true _ c.hand_out.ensures _ _ c.with_detail.ensures refl

pub overflow_cast-heads : goal.overflow_cast-heads
overflow_cast-heads c = omega (arith, seven_room _ _ (sym c.is_next.ensures ∙ c.if-is_next.true))

pub overflow_add-heads-then-is_next : goal.overflow_add-heads-then-is_next
overflow_add-heads-then-is_next c = omega (arith, seven_room _ _ (sym c.is_next.ensures ∙ c.if-is_next.true))

pub returns-then-is_next : goal.returns-then-is_next
returns-then-is_next c =
    let a = c.args in
    at_more (memory a.heads.now a.bytes.now) c.told-heads c.told-bytes a.out.now a.i c.requires a.d.now _ c.is_next.ensures c.if-is_next.true _ c.lay_seven.ensures _
    c.is_last.ensures c.if-is_last.false _ _ c.briefly.ensures.0 c.briefly.ensures.1

pub returns : goal.returns
returns c =
    let a = c.args in
    at_29 (memory a.heads.now a.bytes.now) c.told-heads c.told-bytes a.out.now a.i c.requires a.d.now _ c.is_next.ensures c.if-is_next.false _ _ c.briefly-2.ensures.0
    c.briefly-2.ensures.1
