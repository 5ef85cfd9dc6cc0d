-- `dictionary::entry_of` meets its contract: the rows are those of 2010. Assumes nothing.
use mathlib.Core.Path.{ap, ◌∙◌}
use mathlib.Core.List.{List}
use Rattle.rowrule.specs.declared.Row.{Row}
use Rattle.dictionary.specs.Dictionary.{width_in, number_in, width_of, number_of}
use Rattle.dictionary.proofs.Lent.{lent_2010}
use Rattle.dictionary.proofs.entry_of.Goals as goal

pub entry_in-requires : goal.entry_in-requires
entry_in-requires c = lent_2010 _ c.all.ensures

pub returns : goal.returns
unfolding number_of width_of
returns c =
    let spn = c.args.spn in
    (c.entry_in.ensures.0 ∙ ap (λ (rows : List Row). number_in rows spn) c.all.ensures, c.entry_in.ensures.1 ∙ ap (λ (rows : List Row). width_in rows spn) c.all.ensures)
