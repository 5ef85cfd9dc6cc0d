-- `set_editions`: the rows passed have given their keys their editions. Assumes nothing.
use Prim.Native.Nat.{ℕ}
use mathlib.Core.Path.{sym, ap, ◌∙◌}
use mathlib.Core.Bool.{cond}
use native.Mathlib.Omega.{arith}
use native.Mathlib.Numerals.{unary_clauses}
use lib.Dec.{eqb}
use Rattle.answers.specs.Answers.{Outcome}
use Rattle.load.proofs.Fed.{editions_turn, editions_done}
use Rattle.load.proofs.set_editions.Goals as goal

pub loop-i-preserved : goal.loop-i-preserved
loop-i-preserved c =
    let a = c.args in
    let e = c.edition_said-edition.ensures ∙ ap (λ (x : ℕ). cond {A = ℕ} (eqb x 1) 2004 2010) c.byte_at.ensures in
    rw (ap (λ (o : Outcome). o.memory) c.set_edition.ensures, e, c.key_at-key.ensures)
    (sym (editions_turn c.loop-i.t a.image.now c.loop-i.i _ (omega (arith, c.byte_at-i-end.ensures))) ∙ c.loop-i.invariant)

pub returns : goal.returns
returns c =
    let a = c.args in
    sym (editions_done c.loop-i.t a.image.now _ _ (omega (arith, c.byte_at-i-end.ensures))) ∙ c.loop-i.invariant
