-- `set_edition`: the three ways of the definition. Assumes nothing.
use mathlib.Core.Path.{sym, ◌∙◌}
use native.Mathlib.Omega.{arith}
use borrow.Author.Tests.{not-true, not-false}
use Rattle.edition.proofs.Edited.{told_11, told_27, told_0}
use Rattle.edition.proofs.set_edition.Goals as goal

pub returns-in_default : goal.returns-in_default
returns-in_default c = told_11 _ _ _ _ c.in_default.ensures _ (omega arith) c.plainly.ensures

pub returns-then-not-is_edition : goal.returns-then-not-is_edition
returns-then-not-is_edition c = told_27 _ _ _ _ c.in-Some.ensures.0 _ c.in-Some.ensures.1 (sym c.is_edition.ensures ∙ not-true _ c.if-not-is_edition.true-raw) c.plainly-then-not-is_edition.ensures

pub returns : goal.returns
returns c = told_0 _ _ _ _ c.in-Some.ensures.0 _ c.in-Some.ensures.1 (sym c.is_edition.ensures ∙ not-false _ c.if-not-is_edition.false-raw) _ c.edit_at.ensures c.plainly-2.ensures
