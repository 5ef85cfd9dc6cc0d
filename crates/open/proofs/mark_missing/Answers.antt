-- `mark_missing`: after i turns the first i positions are marked where nothing stands. Assumes nothing.
use Prim.Native.Nat.{ℕ}
use mathlib.Core.Path.{◌≡◌, refl, ap, ◌∙◌}
use native.Mathlib.Omega.{arith}
use Rattle.words.specs.Lists.{tabulate}
use Rattle.open.specs.Unfolded.{marked_to}
use Rattle.open.proofs.Unfolded.{mark_turn}
use Rattle.open.proofs.mark_missing.Goals as goal

pub loop-i-init : goal.loop-i-init
unfolding marked_to tabulate
loop-i-init c = refl

pub loop-i-preserved : goal.loop-i-preserved
loop-i-preserved c = let a = c.args in mark_turn a.row.now a.widths.now _ c.loop-i.i _ (omega arith) c.loop-i.invariant c.mark_or.ensures

pub returns : goal.returns
returns c =
    let a = c.args in
    let e : c.loop-i.i ≡ a.n = omega arith in
    c.loop-i.invariant ∙ ap (λ (k : ℕ). marked_to a.row.now k a.widths.now) e
