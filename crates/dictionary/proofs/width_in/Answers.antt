-- `dictionary::width_in` meets its contract: the width of the entry, and 0 where there is none. Assumes nothing.
use Rattle.dictionary.proofs.width_in.Goals as goal

pub returns-in-Some : goal.returns-in-Some
returns-in-Some c = c.in-Some.ensures.1

pub returns-in-None : goal.returns-in-None
returns-in-None c = c.in-None.ensures.1
