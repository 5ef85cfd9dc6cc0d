-- `judge`: where one walk finds no rule that applies, the transport flag and L decide; elsewhere the rules do, in their order. Assumes nothing.
use native.Mathlib.Omega.{arith}
use borrow.Author.Tests.{ltb-false}
use mathlib.Core.Path.{sym}
use Rattle.judge.proofs.Clear.{walked, all_clear}
use Rattle.judge.proofs.Slices.{last-is}
use Rattle.judge.proofs.judge.Goals as goal

pub returns-in-Some : goal.returns-in-Some
returns-in-Some c =
    let a = c.args in
    let (none, most) = walked _ _ _ c.in-Some.ensures in
    let within = ltb-false 14280 c.in-Some.end (sym c.if-not-is_beyond.ensures) in
    last-is (all_clear a.n a.transport a.spns.now a.starts.now a.widths.now (omega (arith, c.shortest.ensures, c.if-shortest-n.false)) none (omega (arith, most, within)))
    _ _ most c.last_word.ensures
