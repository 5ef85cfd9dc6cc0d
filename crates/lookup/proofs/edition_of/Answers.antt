-- `edition_of`: that of the key's row, or 2010. Assumes nothing.
use mathlib.Core.Path.{◌∙◌}
use Rattle.lookup.proofs.KeyRow.{its_edition, no_edition}
use Rattle.lookup.proofs.edition_of.Goals as goal

pub returns-in-Some : goal.returns-in-Some
returns-in-Some c = c.edition_of.ensures ∙ its_edition _ _ _ c.in-Some.ensures.0

pub returns-in-None : goal.returns-in-None
returns-in-None c = no_edition _ _ c.in-None.ensures.0
