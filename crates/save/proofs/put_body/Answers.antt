-- `save::put_body`: the row's body, where there is a row. Assumes nothing.
use Rattle.lookup.specs.View.{map_in}
use Rattle.open.specs.Open.{width_for}
use Rattle.lookup.proofs.KeyRow.{no_map}
use Rattle.save.proofs.Pieces.{its_saved, saved_held, saved_none}
use Rattle.save.proofs.put_body.Goals as goal

pub returns-in-Some : goal.returns-in-Some
returns-in-Some c =
    let a = c.args in
    let row = c.in-Some.row.now in
    saved_held (map_in a.t.now a.key) (width_for a.t.now a.key) row _ _ c.requires (its_saved a.t.now a.key row c.in-Some.ensures.1 c.in-Some.ensures.0 c.requires) c.put_row_body.ensures

pub returns-in_default : goal.returns-in_default
returns-in_default c =
    let a = c.args in
    saved_none (map_in a.t.now a.key) _ (no_map a.t.now a.key c.in_default.ensures.1 c.in_default.ensures.0)
