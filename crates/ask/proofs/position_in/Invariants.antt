use lib.Dec.{eqb}
use lib.ListN.{get_or}
use Rattle.words.proofs.Lowest.{None}
use Rattle.ask.proofs.position_in.Given as goal

abbrev pub invariant-loop-i : goal.invariant-loop-i
invariant-loop-i l = None (λ k. eqb (get_or l.spns k 0) l.spn) l.i
