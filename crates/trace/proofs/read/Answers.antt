-- `trace::read` meets its contract: by the length, and then by the first byte. Assumes nothing.
use borrow.Author.Tests.{lt-ltb, le-ltb, ne_eqb}
use lib.ListN.{get_or}
use native.Mathlib.Omega.{arith}
use Rattle.trace.specs.Entry.{entry_in}
use Rattle.trace.proofs.read.Goals as goal

pub returns-then-s-lt-SIZE : goal.returns-then-s-lt-SIZE
unfolding entry_in
returns-then-s-lt-SIZE c = simp (lt-ltb _ _ c.if-s-lt-SIZE.true)

pub returns-then-b : goal.returns-then-b
unfolding entry_in
returns-then-b c = simp (le-ltb _ _ c.if-s-lt-SIZE.false, c.if-b.true, c.read-f.ensures)

pub returns-then-b-2 : goal.returns-then-b-2
unfolding entry_in
returns-then-b-2 c = simp (le-ltb _ _ c.if-s-lt-SIZE.false, c.if-b.false, c.if-b-2.true)

pub returns-in-65 : goal.returns-in-65
unfolding entry_in
returns-in-65 c = simp (le-ltb _ _ c.if-s-lt-SIZE.false, c.in-65.is, c.number_of-pgn.ensures)

pub returns-in-66 : goal.returns-in-66
unfolding entry_in
returns-in-66 c = simp (le-ltb _ _ c.if-s-lt-SIZE.false, c.in-66.is, c.number_of-pgn.ensures)

pub returns-in-67 : goal.returns-in-67
unfolding entry_in
returns-in-67 c = simp (le-ltb _ _ c.if-s-lt-SIZE.false, c.in-67.is)

pub returns-in_default-3 : goal.returns-in_default-3
unfolding entry_in
returns-in_default-3 c =
    let b = get_or c.args.s.now 0 0 in
    simp (le-ltb _ _ c.if-s-lt-SIZE.false, c.if-b.false, c.if-b-2.false, ne_eqb b 65 (omega arith), ne_eqb b 66 (omega arith), ne_eqb b 67 (omega arith))
