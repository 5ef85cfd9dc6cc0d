-- `lay`: after i turns the first i states are laid. Assumes nothing.
use Prim.Native.Nat.{ℕ}
use mathlib.Core.Path.{◌≡◌, refl, ap, ◌∙◌}
use mathlib.Core.List.{List, ◌++◌}
use native.Mathlib.Omega.{arith}
use borrow.Author.Rules.{rules}
use lib.ListN.{get_or, drop}
use Rattle.words.specs.Lists.{tabulate}
use Rattle.words.proofs.Lists.{write_more}
use Rattle.states.specs.States.{state_of, states_of, states_over, reach}
use Rattle.states.proofs.Cases.{state_tag}
use Rattle.states.proofs.lay.Goals as goal

-- where all reach no further all are laid
all_laid : (widths numbers held : List ℕ) (i : ℕ) → i ≡ reach widths numbers held → states_of widths numbers i ++ drop i held ≡ states_over widths numbers held
unfolding states_over
all_laid widths numbers held i e = ap (λ (k : ℕ). states_of widths numbers k ++ drop k held) e

pub loop-i-init : goal.loop-i-init
unfolding tabulate
loop-i-init c = (search rules, refl)

pub loop-i-preserved : goal.loop-i-preserved
loop-i-preserved c =
    let a = c.args in (
      search rules,
      rw (state_tag c.state_of.result, c.state_of.ensures, c.loop-i.invariant.1)
          (write_more (λ k. state_of (get_or a.widths.now k 0) (get_or a.numbers.now k 0)) c.loop-i.i a.states.now (omega arith)),
    )

pub returns : goal.returns
returns c = c.loop-i.invariant.1 ∙ all_laid _ _ _ c.loop-i.i (omega arith)
