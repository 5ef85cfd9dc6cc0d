-- `behind`: the two sizes of a row. Assumes nothing.
use native.Mathlib.Omega.{arith}
use borrow.Author.Tests.{eq-eqb, ne_eqb}
use Rattle.save.proofs.behind.Goals as goal

pub returns-then-form-eq-OLD : goal.returns-then-form-eq-OLD
returns-then-form-eq-OLD c = (rw (eq-eqb _ _ c.if-form-eq-OLD.true), omega arith)

pub returns : goal.returns
returns c = (rw (ne_eqb _ _ c.if-form-eq-OLD.false), omega arith)
