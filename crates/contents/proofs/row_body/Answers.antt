-- `contents::row_body` meets its contract: the part that the row names, or an empty one. Assumes nothing.
use mathlib.Core.Path.{ap}
use native.Mathlib.Omega.{arith}
use Rattle.image.specs.Part.{Entry}
use Rattle.contents.proofs.Rows.{told_inside, told_part, lies_at}
use Rattle.contents.proofs.row_body.Goals as goal

pub overflow_add-end : goal.overflow_add-end
overflow_add-end c = omega (arith, told_inside _ _ _ c.row-listed.ensures)

pub slice_bounds-result-end : goal.slice_bounds-result-end
slice_bounds-result-end c = told_inside _ _ _ c.row-listed.ensures

pub returns : goal.returns
returns c = record { holds = told_part _ _ _ c.row-listed.ensures; lies = lies_at c.args.image (ap (λ (e : Entry). e.offset) c.row-listed.ensures) }
