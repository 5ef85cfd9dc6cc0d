-- `open`: a key without a row is not held; else its map is its row's. Assumes nothing.
use mathlib.Core.Path.{refl, sym, ◌∙◌}
use mathlib.Core.List.{[]}
use native.Mathlib.Omega.{arith}
use Rattle.dictionary.specs.Dictionary.{width_by}
use Rattle.lookup.proofs.KeyRow.{its_edition, no_map, its_map}
use Rattle.open.specs.Open.{opened_by}
use Rattle.open.proofs.InHand.{no_map_as, its_map_as, opened_none}
use Rattle.open.proofs.open.Goals as goal

pub returns-in_default : goal.returns-in_default
returns-in_default c =
    let e = c.in_default.ensures in
    opened_none _ _ _ _ _ _ _ (no_map _ _ e.1 e.0) (no_map_as _ _ e.1 [] e.0 refl) c.plainly-answer.ensures

pub returns : goal.returns
returns c =
    let e = c.in-Some.ensures in
    let row = c.in-Some.row.now in
    let a = c.args in
    c.open_row.ensures
    ∙ (λ i. opened_by (width_by (its_edition _ _ _ e.0 i)) (sym (its_map _ _ row e.2 e.0) i) (sym (its_map_as _ _ e.1 row e.0 (λ z. omega (arith, z, e.2))) i)
    a.spns.now a.starts.now a.widths.now)
