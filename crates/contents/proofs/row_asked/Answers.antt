-- `contents::row_asked` meets its contract: its three answers. Assumes nothing.
use mathlib.Core.Path.{sym, ◌∙◌}
use native.Mathlib.Omega.{arith}
use Rattle.contents.proofs.Rows.{asked_21, asked_22, asked_0}
use Rattle.contents.proofs.row_asked.Goals as goal

pub returns-then-i-count : goal.returns-then-i-count
returns-then-i-count c =
    let a = c.args in
    asked_0 a.image.now a.i _ c.plainly.ensures (sym c.check.ensures ∙ c.if-check.true) (omega (arith, c.count.ensures.0, c.if-i-count.true))

pub returns-then-check : goal.returns-then-check
returns-then-check c =
    let a = c.args in
    asked_22 a.image.now a.i _ c.plainly-then-check.ensures (sym c.check.ensures ∙ c.if-check.true) (omega (arith, c.count.ensures.0, c.if-i-count.false))

pub returns : goal.returns
returns c =
    let a = c.args in
    asked_21 a.image.now a.i _ c.plainly-2.ensures (sym c.check.ensures ∙ c.if-check.false)
