-- `dictionary::width_of` meets its contract: by the rows of the edition. Assumes nothing.
use mathlib.Core.Path.{ap, ◌∙◌}
use mathlib.Core.List.{List}
use Rattle.rowrule.specs.declared.Row.{Row}
use Rattle.dictionary.specs.Dictionary.{width_in, width_by}
use Rattle.dictionary.proofs.Lent.{rows_2004, rows_2010, lent_2004, lent_2010}
use Rattle.dictionary.proofs.width_of.Goals as goal

pub width_in-requires : goal.width_in-requires
width_in-requires c = lent_2004 _ c.all_2004.ensures

pub returns-then-edition-eq-EDITION_2004 : goal.returns-then-edition-eq-EDITION_2004
unfolding width_by
returns-then-edition-eq-EDITION_2004 c = c.width_in.ensures ∙ ap (λ (rows : List Row). width_in rows c.args.spn) (c.all_2004.ensures ∙ rows_2004 _ c.if-edition-eq-EDITION_2004.true)

pub width_in-requires-2 : goal.width_in-requires-2
width_in-requires-2 c = lent_2010 _ c.all.ensures

pub returns : goal.returns
unfolding width_by
returns c = c.width_in-2.ensures ∙ ap (λ (rows : List Row). width_in rows c.args.spn) (c.all.ensures ∙ rows_2010 _ c.if-edition-eq-EDITION_2004.false)
