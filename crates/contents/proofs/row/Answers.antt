-- `contents::row` meets its contract: the numbers of a row that is there. Assumes nothing.
use Prim.Native.Nat.{ℕ}
use mathlib.Core.Path.{◌≡◌, ap, ◌∙◌}
use mathlib.Core.Bool.{cond}
use native.Mathlib.Omega.{arith}
use lib.Dec.{eqb}
use Rattle.answers.specs.Answers.{in_numbers}
use Rattle.image.specs.Write.{behind}
use Rattle.image.specs.Read.{key_at, edition_at}
use Rattle.image.specs.Part.{row_place, off_at, len_at}
use Rattle.image.proofs.Part.{row_inside}
use Rattle.contents.proofs.Rows.{answered_there, entry_there, entry_not, off-word, len_word}
use Rattle.contents.proofs.row.Goals as goal

pub returns-then-answer-ne0 : goal.returns-then-answer-ne0
returns-then-answer-ne0 c = c.no_row.ensures ∙ entry_not _ _ _ c.row_asked-answer.ensures c.if-answer-ne0.true

pub overflow_cast-i : goal.overflow_cast-i
overflow_cast-i c = omega (arith, (row_inside _ _ (answered_there _ _ _ c.row_asked-answer.ensures c.if-answer-ne0.false)).0)

pub returns : goal.returns
returns c =
    let l = c.args.image.now in
    let i = c.args.i in
    let p = c.behind-r.result in
    -- where it lies
    let q : c.behind-r.result ≡ row_place c.args.image.now c.args.i = c.behind-r.ensures.0 ∙ ap (λ (f : ℕ). behind f i) c.form_of-form.ensures in
    entry_there l i (in_numbers c.row_asked-answer.result) _ c.word.result c.word-2.result c.edition_at.result c.row_asked-answer.ensures
    (answered_there _ _ _ c.row_asked-answer.ensures c.if-answer-ne0.false)
    (c.key_at.ensures ∙ ap (key_at l) q) (off-word l p c.word.result c.word.ensures.0 ∙ ap (off_at l) q) (len_word l p c.word-2.result c.word-2.ensures.0 ∙ ap (len_at l) q)
    (c.edition_at.ensures ∙ (λ j. cond {A = ℕ} (eqb (c.form_of-form.ensures j) 1) 2010 (edition_at l (q j))))
