-- `pairs::renew_row` meets its contract: 19, or the mode and an empty list. Assumes nothing.
use Rattle.pairs.proofs.Answers.{renew_19, renew_done}
use Rattle.pairs.proofs.renew_row.Goals as goal

pub returns-then-mode-gt1 : goal.returns-then-mode-gt1
returns-then-mode-gt1 c = renew_19 _ _ c.if-mode-gt1.true

pub returns : goal.returns
returns c = renew_done _ _ c.if-mode-gt1.false
