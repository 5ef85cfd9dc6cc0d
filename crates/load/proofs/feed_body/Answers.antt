-- The frames passed are heard: those that are left make of the words what all make of them at the start. Assumes nothing.
use mathlib.Core.Path.{sym, ◌∙◌}
use native.Mathlib.Omega.{arith}
use native.Mathlib.Numerals.{unary_clauses}
use Rattle.load.proofs.Fed.{body_turn, body_done}
use Rattle.load.proofs.feed_body.Goals as goal

pub loop-i-preserved : goal.loop-i-preserved
loop-i-preserved c =
    let a = c.args in
    rw c.hear.ensures (sym (body_turn c.loop-i.t a.image.now a.key a.p c.loop-i.i a.n (omega arith)) ∙ c.loop-i.invariant)

pub returns : goal.returns
returns c =
    let a = c.args in
    sym (body_done c.loop-i.t a.image.now a.key _ _ (omega arith)) ∙ c.loop-i.invariant
