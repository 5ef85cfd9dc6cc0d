use mathlib.Core.Path.{◌≡◌}
use Rattle.lookup.proofs.Lowest.{lowest_to}
use Rattle.lookup.proofs.lowest_from.Given as goal

abbrev pub invariant-loop-i : goal.invariant-loop-i
invariant-loop-i l = l.best ≡ lowest_to l.t l.from l.i
