use mathlib.Core.Path.{◌≡◌}
use mathlib.Core.List.{◌++◌}
use lib.ListN.{length, get_or, drop}
use Rattle.words.specs.Lists.{tabulate}
use Rattle.dictionary.specs.Dictionary.{width_in}
use Rattle.dictionary.proofs.widths_in.Given as goal

-- the first i widths are laid
abbrev pub invariant-loop-i : goal.invariant-loop-i
invariant-loop-i l =
    (length l.widths ≡ length l.initial.widths) × (l.widths ≡ tabulate (λ k. width_in l.rows (get_or l.spns k 0)) l.i ++ drop l.i l.initial.widths)
