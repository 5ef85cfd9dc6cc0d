-- `bridge::slot` meets its contract: one leaves, none does, or 15. Assumes nothing.
use Rattle.std.proofs.Common.{◌≡◌, ◌-◌, ◌∙◌, ap, arith}
use Rattle.queue.specs.Row.{leaves_at}
use Rattle.bridge.specs.Bridge.{bridge}
use Rattle.bridge.proofs.Calls.{slot-sent, slot_none, slot_15}
use Rattle.bridge.proofs.slot.Goals as goal

pub returns : goal.returns
returns c =
    let a = c.args in
    let (p, few, e) = c.in-Some.ensures in
    let i : c.in-Some.i ≡ a.port - 1 = omega (arith, e) in
    slot-sent (bridge a.c.now a.q.now) a.port a.from.now a.id.now p _ _ _ _ _ _ _ (c.in-Some-leave.ensures ∙ ap (leaves_at a.q.now) i)
    c.from_in-source.ensures (c.unwrap_or-pair.ensures ∙ c.pair_of.ensures.number) c.note.ensures c.id_in.ensures c.answer_to.ensures

pub returns-in_default : goal.returns-in_default
returns-in_default c =
    let a = c.args in
    slot_15 (bridge a.c.now a.q.now) a.port a.from.now a.id.now c.in_default.ensures _ c.plainly.ensures

pub returns-in_default-leave : goal.returns-in_default-leave
returns-in_default-leave c =
    let a = c.args in
    let (p, few, e) = c.in-Some.ensures in
    let i : c.in-Some.i ≡ a.port - 1 = omega (arith, e) in
    slot_none (bridge a.c.now a.q.now) a.port a.from.now a.id.now p _ _ (c.in_default-leave.ensures ∙ ap (leaves_at a.q.now) i) c.plainly-in_default-leave.ensures
