-- `contents::row_with` meets its contract: no row below i has the key. Assumes nothing.
use mathlib.Core.Path.{sym, ◌∙◌}
use native.Mathlib.Omega.{arith}
use borrow.Author.Count.{below_none, below_more}
use Rattle.words.proofs.First.{first-at, first_none}
use Rattle.image.specs.Read.{row_count}
use Rattle.image.specs.Part.{row_with}
use Rattle.contents.proofs.Rows.{seen}
use Rattle.contents.proofs.row_with.Goals as goal

pub returns-then-row_is : goal.returns-then-row_is
unfolding row_with
returns-then-row_is c =
    sym (first-at _ (row_count c.args.image.now) c.loop-i.i (omega (arith, c.byte_at-count.ensures)) c.loop-i.invariant
    (seen _ _ _ c.form_of-form.ensures _ c.behind.ensures.0 _ _ c.row_is.ensures ∙ c.if-row_is.true))

pub returns : goal.returns
unfolding row_with
returns c =
    let n = c.byte_at-count.ensures in
    n ∙ sym (first_none _ (row_count c.args.image.now) (λ j h. c.loop-i.invariant j (omega (arith, n))))
