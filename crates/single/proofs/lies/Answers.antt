-- `lies`: a narrow one ends at start + width. Assumes nothing.
use native.Mathlib.Omega.{arith}
use borrow.Author.Tests.{le-leb}
use lib.Dec.{leb}
use Rattle.words.proofs.Tests.{test}
use Rattle.single.proofs.Cutting.{narrow, even_end}
use Rattle.single.proofs.lies.Goals as goal

pub returns-then-width-le8 : goal.returns-then-width-le8
returns-then-width-le8 c =
    let a = c.args in
    rw (even_end a.start a.width (narrow a.width c.if-width-le8.true), le-leb a.width 32 (omega arith)) (test (leb 1 a.width) (λ y. rw y) (λ n. rw n))
