-- `transport::row_with` meets its contract: no row below i has the holder. Assumes nothing.
use borrow.Author.Rules.{rules}
use borrow.Author.Count.{below_none}
use lib.Dec.{lit<}
use Rattle.words.proofs.Rows.{row_hit, row_turn, row_miss}
use Rattle.transport.specs.Rows.{row_with}
use Rattle.transport.proofs.row_with.Goals as goal

pub loop-i-init : goal.loop-i-init
unfolding row_with
loop-i-init c = below_none _

pub returns-then-heads-i-clause-number : goal.returns-then-heads-i-clause-number
unfolding row_with
returns-then-heads-i-clause-number c = row_hit 4 8 _ (search rules) (lit< tt) _ _ (search rules) c.loop-i.invariant c.if-heads-i.true

pub loop-i-preserved : goal.loop-i-preserved
unfolding row_with
loop-i-preserved c = row_turn 4 8 _ (search rules) (lit< tt) _ _ (search rules) c.loop-i.invariant c.if-heads-i.false

pub returns-clause-number : goal.returns-clause-number
unfolding row_with
returns-clause-number c = row_miss 4 8 _ (search rules) (lit< tt) _ _ (search rules) c.loop-i.invariant
