-- `pairs::lists` meets its contract: whether one of the entries passed is the PGN. Assumes nothing.
use Rattle.std.proofs.Common.{sym, ◌∙◌, arith}
use borrow.Author.Tests.{eq-eqb, ne_eqb}
use Rattle.pairs.proofs.Answers.{any_none, any-here, any-past, any-listed, none-listed, four_more, one_listed}
use Rattle.pairs.proofs.lists.Goals as goal

pub returns-then-n-eq0 : goal.returns-then-n-eq0
returns-then-n-eq0 c = none-listed _ _ c.count_of-n.ensures.0 c.if-n-eq0.true

pub loop-i-init : goal.loop-i-init
loop-i-init c = sym (any_none _)

pub returns-then-is_in_four : goal.returns-then-is_in_four
returns-then-is_in_four c =
    one_listed _ _ c.count_of-n.ensures.0 (omega (arith, c.loop-i-test.true)) (four_more _ _ _ c.is_in_four.ensures c.loop-i.invariant ∙ c.if-is_in_four.true)

pub loop-i-preserved : goal.loop-i-preserved
loop-i-preserved c = four_more _ _ _ c.is_in_four.ensures c.loop-i.invariant ∙ c.if-is_in_four.false

pub returns-then-row-k : goal.returns-then-row-k
returns-then-row-k c = one_listed _ _ c.count_of-n.ensures.0 (omega (arith, c.loop-k-test.true)) (sym (any-here _ _ (eq-eqb _ _ c.if-row-k.true)))

pub loop-k-preserved : goal.loop-k-preserved
loop-k-preserved c = sym (any-past _ _ (ne_eqb _ _ c.if-row-k.false)) ∙ c.loop-k.invariant

pub returns : goal.returns
returns c = any-listed _ _ (omega (arith, c.loop-k-test.false, c.loop-k.auto.k-end, c.count_of-n.ensures.0)) (sym c.loop-k.invariant)
