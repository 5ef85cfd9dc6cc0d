-- `save::put_rows`: the rows of the keys from the index on, laid after what there is, make the page that all of them make. Assumes nothing.
use mathlib.Core.Path.{refl, ◌∙◌}
use native.Mathlib.Numerals.{add-one}
use native.Mathlib.Omega.{arith}
use Rattle.text.specs.Page.{held}
use Rattle.save.proofs.Walked.{rows_turn, rows_end}
use Rattle.save.proofs.put_rows.Goals as goal

pub loop-key-init : goal.loop-key-init
loop-key-init c = (omega (arith, c.requires.0), refl, refl)

pub loop-key-preserved : goal.loop-key-preserved
loop-key-preserved c =
    let l = c.loop-key in
    let e = c.put_row.ensures in (
      omega (arith, l.invariant.0, c.body_len-len.ensures.1),
      e.same ∙ l.invariant.1,
      rw add-one (rows_turn c.args.t.now c.args.keys.now l.key-index _ c.loop-key-test.true c.args.form l.body _ (held l.page) _ c.body_len-len.ensures.0 e.holds ∙ l.invariant.2),
    )

pub returns : goal.returns
returns c =
    let l = c.loop-key in
    record { same = l.invariant.1; holds = rows_end c.args.t.now c.args.keys.now l.key-index (omega (arith, c.loop-key-test.false)) c.args.form l.body (held l.page) ∙ l.invariant.2 }
