-- `pairs::obey_in` meets its contract: the words are the row. Assumes nothing.
use Rattle.pairs.proofs.Answers.{whole_row}
use Rattle.pairs.proofs.obey_in.Goals as goal

pub returns-in-Some : goal.returns-in-Some
returns-in-Some c = whole_row _ _ c.in-Some.ensures.cases.same c.obey_row.ensures
