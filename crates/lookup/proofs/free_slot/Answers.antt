-- `free_slot`: no row below i is free. Assumes nothing.
use borrow.Author.Rules.{rules}
use lib.Dec.{lit<}
use Rattle.words.proofs.Rows.{row_hit, row_turn, row_miss}
use Rattle.history.specs.History.{most_keys}
use Rattle.keyrow.specs.Row.{row_words}
use Rattle.lookup.specs.Layout.{free_slot}
use Rattle.lookup.proofs.free_slot.Goals as goal

pub returns-then-t-i-eq-FREE : goal.returns-then-t-i-eq-FREE
unfolding free_slot
returns-then-t-i-eq-FREE c = (row_hit row_words most_keys _ (search rules) (lit< tt) 0 _ (search rules) c.loop-i.invariant c.if-t-i-eq-FREE.true, search rules)

pub loop-i-preserved : goal.loop-i-preserved
loop-i-preserved c = row_turn row_words most_keys _ (search rules) (lit< tt) 0 _ (search rules) c.loop-i.invariant c.if-t-i-eq-FREE.false

pub returns : goal.returns
unfolding free_slot
returns c = row_miss row_words most_keys _ (search rules) (lit< tt) 0 _ (search rules) c.loop-i.invariant
