use lib.Dec.{eqb}
use Rattle.words.specs.Rows.{row_at}
use Rattle.words.proofs.Lowest.{None}
use Rattle.transport.specs.Rows.{holder_word}
use Rattle.transport.proofs.row_with.Given as goal

abbrev pub invariant-loop-i : goal.invariant-loop-i
invariant-loop-i l = None (λ k. eqb (holder_word (row_at 4 l.heads k)) l.holder) l.i
