-- `position_in`: no position passed has the SPN, so the one that stops the search is the lowest. Assumes nothing.
use mathlib.Core.Path.{refl, sym}
use mathlib.Core.Bool.{true}
use borrow.Author.Count.{below_none, below_more}
use borrow.Author.Rules.{rules}
use borrow.Author.Tests.{eq-eqb, ne_eqb}
use native.Mathlib.Omega.{arith}
use Rattle.words.proofs.Lowest.{hit, miss}
use Rattle.ask.proofs.position_in.Goals as goal

pub loop-i-init : goal.loop-i-init
loop-i-init c = below_none _

pub returns-then-spns-i : goal.returns-then-spns-i
returns-then-spns-i c = (sym (hit _ _ _ true (search rules) c.loop-i.invariant (sym (eq-eqb _ _ c.if-spns-i.true)) refl), search rules)

pub loop-i-preserved : goal.loop-i-preserved
loop-i-preserved c = below_more _ _ c.loop-i.invariant (ne_eqb _ _ c.if-spns-i.false)

pub returns : goal.returns
returns c = sym (miss _ c.args.n c.loop-i.i (omega arith) c.loop-i.invariant)
