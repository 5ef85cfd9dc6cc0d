-- `dictionary::widths_of` meets its contract: by the rows of the edition. Assumes nothing.
use mathlib.Core.Path.{◌∙◌}
use Rattle.dictionary.proofs.Lent.{rows_2004, rows_2010, laid_by, lent_2004, lent_2010}
use Rattle.dictionary.proofs.widths_of.Goals as goal

pub widths_in-requires : goal.widths_in-requires
widths_in-requires c = lent_2004 _ c.all_2004.ensures

pub returns-then-edition-eq-EDITION_2004 : goal.returns-then-edition-eq-EDITION_2004
returns-then-edition-eq-EDITION_2004 c = c.widths_in.ensures ∙ laid_by c.all_2004.result.now _ _ _ (c.all_2004.ensures ∙ rows_2004 _ c.if-edition-eq-EDITION_2004.true)

pub widths_in-requires-2 : goal.widths_in-requires-2
widths_in-requires-2 c = lent_2010 _ c.all.ensures

pub returns : goal.returns
returns c = c.widths_in-2.ensures ∙ laid_by c.all.result.now _ _ _ (c.all.ensures ∙ rows_2010 _ c.if-edition-eq-EDITION_2004.false)
