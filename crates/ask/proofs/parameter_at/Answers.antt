-- `parameter_at`: a key without a row is not held; else the cell of the position in the key's row says what stands there. Assumes nothing.
use Prim.Native.Nat.{ℕ}
use mathlib.Core.Path.{ap, ◌∙◌}
use Rattle.dictionary.specs.Dictionary.{width_by}
use Rattle.open.specs.Open.{width_row}
use Rattle.ask.proofs.Calls.{stands_none}
use Rattle.ask.proofs.Standing.{row_stands, stands_no, stands_here}
use Rattle.ask.proofs.Keys.{none_held}
use Rattle.ask.proofs.parameter_at.Goals as goal

pub returns-in_default : goal.returns-in_default
returns-in_default c =
    c.absent.ensures
    ∙ stands_none _ _ _ (none_held _ _ c.in_default.ensures.1 c.in_default.ensures.0) c.plainly.ensures c.args.position

pub returns-in_default-cell_at : goal.returns-in_default-cell_at
returns-in_default-cell_at c =
    let e = c.in-Some.ensures in
    let row = c.in-Some.row.now in
    let p = c.args.position in
    c.absent-in_default-cell_at.ensures ∙ stands_no (width_row row) row p _ c.in_default-cell_at.ensures c.plainly-in_default-cell_at.ensures ∙ row_stands _ _ row e.0 e.2 p

pub returns : goal.returns
returns c =
    let e = c.in-Some.ensures in
    let row = c.in-Some.row.now in
    let p = c.args.position in
    let cell = c.in-Some-cell_at.ensures in
    stands_here (width_row row) row p _ _ cell.0 cell.1 c.plainly-answer.ensures _ _ _ c.spn_of-spn.ensures c.start_of-start.ensures
    (c.width_of-width.ensures ∙ ap (λ (x : ℕ). width_by x c.spn_of-spn.result) c.edition_of.ensures)
    ∙ row_stands _ _ row e.0 e.2 p
