use mathlib.Core.Path.{◌≡◌}
use Rattle.places.specs.Place.{end_to}
use Rattle.judge.proofs.Listed.largest_end.Given as goal

abbrev pub invariant-loop-i : goal.invariant-loop-i
invariant-loop-i l = l.end ≡ end_to l.self.starts.now l.self.widths.now l.i
