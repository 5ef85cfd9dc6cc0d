-- `slot_of`: a row's number is that of a slot, and where there is no such row zeros stand. Assumes nothing.
use Rattle.std.proofs.Common.{arith}
use Rattle.slots.specs.Slots.{slot_count}
use Rattle.slots.proofs.Slots.{lent_in, lent_none}
use Rattle.slots.proofs.slot_of.Goals as goal

pub bounds-all_slots-number : goal.bounds-all_slots-number
bounds-all_slots-number c =
    let h = c.in-Some.ensures.lookup in
    omega (arith, h.3.1 slot_count, lent_in _ c.all_rows.ensures c.args.row h.3.0)

pub returns-in-None : goal.returns-in-None
returns-in-None c = lent_none _ c.all_rows.ensures c.args.row c.in-None.ensures.lookup.3
