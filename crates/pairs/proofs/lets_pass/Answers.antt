-- `pairs::lets_pass` meets its contract: by the mode and the list of the row. Assumes nothing.
use Rattle.pairs.proofs.Answers.{passes-by}
use Rattle.pairs.proofs.lets_pass.Goals as goal

pub returns-in-Some : goal.returns-in-Some
returns-in-Some c =
    let a = c.as_chunks.ensures in
    let row = c.in-Some.ensures.lookup in
    passes-by _ _ _ _ a.front a.front_len row.3.0 row.1 c.mode_of.ensures c.lists.ensures c.passing.ensures
