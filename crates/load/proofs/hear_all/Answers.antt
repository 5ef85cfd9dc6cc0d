-- `hear_all`: the rows passed have been heard. Assumes nothing.
use Prim.Native.Nat.{ℕ, ◌%◌, ◌≤◌}
use mathlib.Core.Path.{◌≡◌, sym, ap, ◌∙◌}
use native.Mathlib.Omega.{arith}
use native.Mathlib.Numerals.{unary_clauses}
use Rattle.image.specs.Write.{row_size, behind}
use Rattle.image.specs.Read.{count_at}
use Rattle.load.specs.Fed.{fed_rows}
use Rattle.load.proofs.Fed.{rows_turn, rows-done}
use Rattle.load.proofs.hear_all.Goals as goal

pub loop-i-init : goal.loop-i-init
loop-i-init c =
    let a = c.args in
    let form = c.form_of-form.ensures in
    let count = c.byte_at-count.ensures in
    let at = c.behind-at.ensures.0 ∙ (λ i. behind (form i) (count i)) in
    (omega (arith, c.behind-at.ensures.1), simp unary_clauses (λ i. fed_rows (row_size (form i)) a.t.now a.image.now 2 (at i) (count i)))

pub loop-i-preserved : goal.loop-i-preserved
loop-i-preserved c =
    let a = c.args in
    let n : c.byte_at-n.result % 32 ≡ count_at a.image.now c.loop-i.at = ap (λ (x : ℕ). x % 32) c.byte_at-n.ensures in
    let few : c.byte_at-n.result % 32 ≤ 31 = omega arith in (
      omega (arith, c.loop-i.invariant.0),
      rw (c.feed_body.ensures, c.key_at-key.ensures, c.behind.ensures.0, n)
          (sym (rows_turn c.loop-i.t a.image.now (row_size c.form_of-form.result) c.loop-i.at c.loop-i.i c.byte_at-count.result (omega arith)) ∙ c.loop-i.invariant.1),
    )

pub returns : goal.returns
returns c =
    let a = c.args in
    sym (rows-done c.loop-i.t a.image.now (row_size c.form_of-form.result) _ c.loop-i.at _ (omega arith)) ∙ c.loop-i.invariant.1
