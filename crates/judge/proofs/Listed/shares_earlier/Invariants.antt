use Rattle.places.specs.Place.{shares_bit}
use Rattle.judge.specs.Judge.{number_at}
use Rattle.words.proofs.Lowest.{None}
use Rattle.judge.proofs.Listed.shares_earlier.Given as goal

abbrev pub invariant-loop-j : goal.invariant-loop-j
invariant-loop-j l =
    None (λ j. shares_bit (number_at l.self.starts.now j) (number_at l.self.widths.now j) (number_at l.self.starts.now l.i) (number_at l.self.widths.now l.i)) l.j
