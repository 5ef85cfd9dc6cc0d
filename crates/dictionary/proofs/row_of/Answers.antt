-- `dictionary::row_of` meets its contract: the rows are those of 2010. Assumes nothing.
use mathlib.Core.Path.{ap, ◌∙◌}
use mathlib.Core.List.{List}
use Rattle.rowrule.specs.declared.Row.{Row}
use Rattle.dictionary.specs.Dictionary.{number_in, number_of}
use Rattle.dictionary.proofs.Lent.{lent_2010}
use Rattle.dictionary.proofs.row_of.Goals as goal

pub row_in-requires : goal.row_in-requires
row_in-requires c = lent_2010 _ c.all.ensures

pub returns : goal.returns
unfolding number_of
returns c = c.row_in.ensures ∙ ap (λ (rows : List Row). number_in rows c.args.spn) c.all.ensures
