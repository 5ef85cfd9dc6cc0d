use lib.ListN.{get_or}
use Rattle.words.proofs.Lowest.{None}
use Rattle.payload.specs.Calls.{needs_more}
use Rattle.payload.proofs.too_wide.Given as goal

abbrev pub invariant-loop-i : goal.invariant-loop-i
invariant-loop-i l = None (λ k. needs_more (get_or l.numbers k 0) (get_or l.widths k 0)) l.i
