-- `dictionary::entry_in` meets its contract: the row found with its width, and none where there is none.
-- Assumes nothing.
use mathlib.Core.Path.{sym, ◌∙◌}
use native.Mathlib.Omega.{arith}
use Rattle.dictionary.proofs.Lent.{width_found, width-nowhere}
use Rattle.dictionary.proofs.entry_in.Goals as goal

pub returns-in_err-row : goal.returns-in_err-row
returns-in_err-row c = rw c.from_residual.ensures (c.in_err-row.ensures, sym (width-nowhere c.args.rows.now c.requires c.args.spn c.in_err-row.ensures))

-- the row found is one of the rows
pub offset_bounds-rows-row : goal.offset_bounds-rows-row
offset_bounds-rows-row c = omega (arith, width_found c.args.rows.now c.requires c.args.spn _ c.in_ok-row.ensures)

pub bounds-rows-row : goal.bounds-rows-row
bounds-rows-row c = (width_found c.args.rows.now c.requires c.args.spn _ c.in_ok-row.ensures).0

pub returns : goal.returns
returns c = (c.in_ok-row.ensures, c.from.ensures ∙ sym (width_found c.args.rows.now c.requires c.args.spn _ c.in_ok-row.ensures).1)
