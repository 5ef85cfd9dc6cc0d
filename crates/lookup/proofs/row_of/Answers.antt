-- `row_of`: the row of the slot found, or none. Assumes nothing.
use borrow.Author.Rules.{rules}
use Rattle.lookup.proofs.Words.{part_length}
use Rattle.lookup.proofs.KeyRow.{row_none, row_some, in_whole, whole_long}
use Rattle.lookup.proofs.row_of.Goals as goal

pub returns-in_err-i : goal.returns-in_err-i
returns-in_err-i c = (rw c.from_residual.ensures (row_none _ _ c.in_err-i.ensures), search rules, rw c.from_residual.ensures tt)

pub returns : goal.returns
returns c =
    let i = c.in_ok-i in
    let long = part_length c.args.t.now (search rules) i.i i.ensures.1 in (
      in_whole (λ row. row.now) _ _ _ long (row_some _ _ i.i i.ensures.0 i.ensures.1) c.as_array.ensures.cases,
      search rules,
      whole_long (λ row. row.now) _ _ long c.as_array.ensures.cases,
    )
