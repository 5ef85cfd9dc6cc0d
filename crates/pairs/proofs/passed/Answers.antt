-- `pairs::passed` meets its contract: none of the entries passed is the PGN. Assumes nothing.
use Rattle.std.proofs.Common.{sym, ◌∙◌, arith}
use Rattle.pairs.proofs.Answers.{any_none, four_more, none-passed}
use Rattle.pairs.proofs.passed.Goals as goal

pub loop-i-init : goal.loop-i-init
loop-i-init c = sym (any_none _)

pub returns-then-is_in_four : goal.returns-then-is_in_four
returns-then-is_in_four c = (omega (arith, c.loop-i-test.true), none-passed _ _ c.loop-i.invariant)

pub loop-i-preserved : goal.loop-i-preserved
loop-i-preserved c = four_more _ _ _ c.is_in_four.ensures c.loop-i.invariant ∙ c.if-is_in_four.false

pub returns : goal.returns
returns c = (omega arith, λ j l. none-passed _ _ c.loop-i.invariant j (omega (arith, l, c.loop-i-test.false, c.loop-i.auto.i-end)))
