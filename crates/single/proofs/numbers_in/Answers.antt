-- `numbers_in`: all of them, or none, by the tests that led there. Assumes nothing.
use mathlib.Core.Path.{◌≡◌, sym, ◌∙◌}
use mathlib.Core.Bool.{true, false}
use lib.ListN.{length}
use Rattle.single.specs.Single.{taking}
use Rattle.single.proofs.Cutting.{not_taken, all_taken}
use Rattle.single.proofs.numbers_in.Goals as goal

pub returns-then-widths-n : goal.returns-then-widths-n
returns-then-widths-n c =
    let a = c.args in
    let e : taking a.starts.now a.widths.now (length a.room.now) ≡ false = rw c.if-widths-n.true in
    (sym e, not_taken a.word a.starts.now a.widths.now a.room.now e)

pub returns-then-not-all_lie : goal.returns-then-not-all_lie
returns-then-not-all_lie c =
    let a = c.args in
    let e : taking a.starts.now a.widths.now (length a.room.now) ≡ false = rw (c.if-widths-n.false, sym c.all_lie.ensures ∙ c.if-not-all_lie.true) in
    (sym e, not_taken a.word a.starts.now a.widths.now a.room.now e)

pub returns : goal.returns
returns c =
    let a = c.args in
    let e : taking a.starts.now a.widths.now (length a.room.now) ≡ true = rw (c.if-widths-n.false, sym c.all_lie.ensures ∙ c.if-not-all_lie.false) in
    (sym e, all_taken a.word a.starts.now a.widths.now a.room.now e _ c.cut_all.ensures)
