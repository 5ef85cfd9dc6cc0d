-- `pairs::delete_row` meets its contract: each answer by the tests on its way: 17, the place of the PGN, 18. Assumes nothing.
use Rattle.pairs.proofs.Answers.{delete_17, delete_there, delete_18}
use Rattle.pairs.proofs.delete_row.Goals as goal

pub returns-then-ill_formed : goal.returns-then-ill_formed
returns-then-ill_formed c = delete_17 _ _ c.ill_formed.ensures c.if-ill_formed.true

pub returns-in_default : goal.returns-in_default
returns-in_default c = delete_18 _ _ c.ill_formed.ensures c.if-ill_formed.false c.in_default.ensures

pub returns : goal.returns
returns c = delete_there _ _ c.ill_formed.ensures c.if-ill_formed.false c.count_of-n.ensures.0 c.in-Some.ensures
