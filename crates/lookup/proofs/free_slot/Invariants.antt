use lib.Dec.{eqb}
use Rattle.words.proofs.Lowest.{None}
use Rattle.keyrow.specs.Row.{state_word}
use Rattle.lookup.specs.Layout.{row_of}
use Rattle.lookup.proofs.free_slot.Given as goal

abbrev pub invariant-loop-i : goal.invariant-loop-i
invariant-loop-i l = None (λ k. eqb (state_word (row_of l.t k)) 0) l.i
