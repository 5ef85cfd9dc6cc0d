-- `find`: 11 and 12 by what opening the map answered; in a usable map the lowest position with the SPN is the one. Assumes nothing.
use mathlib.Core.Path.{◌∙◌}
use Rattle.open.proofs.InHand.{answer-is}
use Rattle.ask.proofs.Calls.{refused_is, find_unready}
use Rattle.ask.proofs.Finding.{few, index_inside, nowhere_found, found_here}
use Rattle.ask.proofs.find.Goals as goal

pub returns-in-Err : goal.returns-in-Err
returns-in-Err c =
    c.refused.ensures
    ∙ find_unready _ _ _ (refused_is _ _ _ (answer-is _ _ _ _ _ _ c.open-map.ensures) _ c.in-Err.ensures) c.args.spn

pub position_in-requires : goal.position_in-requires
position_in-requires c = few _ _ _ _ _ _ c.open-map.ensures c.in_default.ensures

pub returns-in_default-position_in : goal.returns-in_default-position_in
returns-in_default-position_in c =
    c.refused-in_default-position_in.ensures
    ∙ nowhere_found _ _ _ _ _ _ c.open-map.ensures c.in_default.ensures c.args.spn _ c.in_default-position_in.ensures c.plainly.ensures

pub bounds-starts-i : goal.bounds-starts-i
bounds-starts-i c = index_inside _ _ _ _ _ _ c.open-map.ensures c.in_default.ensures _ c.in-Some.ensures.1

pub bounds-bits-i : goal.bounds-bits-i
bounds-bits-i c = index_inside _ _ _ _ _ _ c.open-map.ensures c.in_default.ensures _ c.in-Some.ensures.1

pub returns : goal.returns
returns c = found_here _ _ _ _ _ _ c.open-map.ensures c.in_default.ensures c.args.spn _ c.in-Some.i c.in-Some.ensures c.plainly-2.ensures
