-- `pairs::obey` meets its contract: the row that is lent comes back as a row that is put, or 15. Assumes nothing.
use Rattle.pairs.proofs.Answers.{lent_back}
use Rattle.pairs.proofs.obey.Goals as goal

pub returns-then-pair-w : goal.returns-then-pair-w
returns-then-pair-w c = lent_back _ _ _ c.if-pair-w.true c.obey_in.ensures
