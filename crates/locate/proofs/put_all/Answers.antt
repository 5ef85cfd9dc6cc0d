-- `locate::put_all`: the records of the messages from the index on, laid after what there is, make the log that all of them make. Assumes nothing.
use mathlib.Core.Path.{refl, ◌∙◌}
use native.Mathlib.Numerals.{add-one}
use native.Mathlib.Omega.{arith}
use Rattle.text.specs.Text.{page}
use Rattle.locate.proofs.Walked.{lay_turn, lay_end}
use Rattle.locate.proofs.put_all.Goals as goal

pub loop-m-init : goal.loop-m-init
loop-m-init c = refl

pub loop-m-preserved : goal.loop-m-preserved
loop-m-preserved c =
    let l = c.loop-m in
    rw add-one (lay_turn c.args.messages.now l.m-index _ c.loop-m-test.true (page l.at l.log) _ c.put_record-at.ensures ∙ l.invariant)

pub returns : goal.returns
returns c =
    let l = c.loop-m in
    lay_end c.args.messages.now l.m-index (omega (arith, c.loop-m-test.false)) (page l.at l.log) ∙ l.invariant
