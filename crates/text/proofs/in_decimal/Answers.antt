-- `text::in_decimal` meets its contract: the digits still to come and those written are the number's, at every turn.
-- Assumes nothing.
use Rattle.text.proofs.Decimal.{started, turned, ended, before}
use native.Mathlib.Omega.{arith}
use borrow.Author.Rules.{rules}
use Prim.Native.Nat.{◌-◌}
use Rattle.text.proofs.in_decimal.Goals as goal

pub loop-rest-init : goal.loop-rest-init
loop-rest-init c = started c.args.n _ (search rules) (search rules)

pub overflow_sub-i : goal.overflow_sub-i
overflow_sub-i c = let w = c.loop-rest.invariant in omega (arith, w.some)

pub loop-rest-preserved : goal.loop-rest-preserved
loop-rest-preserved c = turned c.args.n c.loop-rest.b (c.loop-rest.i - 1) c.loop-rest.rest (before _ _ _ _ c.loop-rest.invariant) c.loop-rest-test.true

pub overflow_sub-i-2 : goal.overflow_sub-i-2
overflow_sub-i-2 c = let w = c.loop-rest.invariant in omega (arith, w.some)

pub returns : goal.returns
returns c = (ended c.args.n c.loop-rest.b (c.loop-rest.i - 1) c.loop-rest.rest (before _ _ _ _ c.loop-rest.invariant) (omega arith), omega (arith, c.loop-rest.invariant.room))
