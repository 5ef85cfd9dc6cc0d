-- `dictionary::widths_in` meets its contract: after i turns the first i widths are laid.
-- Assumes nothing.
use Prim.Native.Nat.{ℕ}
use mathlib.Core.Path.{◌≡◌, refl, ap, ◌∙◌}
use mathlib.Core.List.{List, ◌++◌}
use native.Mathlib.Omega.{arith}
use borrow.Author.Rules.{rules}
use lib.ListN.{get_or, drop}
use Rattle.words.specs.Lists.{tabulate}
use Rattle.words.proofs.Lists.{write_more}
use Rattle.rowrule.specs.declared.Row.{Row}
use Rattle.dictionary.specs.Dictionary.{width_in, widths_over, reach}
use Rattle.dictionary.proofs.widths_in.Goals as goal

-- where both reach no further all are laid
all_laid : (rows : List Row) (spns held : List ℕ) (i : ℕ) → i ≡ reach spns held → tabulate (λ k. width_in rows (get_or spns k 0)) i ++ drop i held ≡ widths_over (width_in rows) spns held
unfolding widths_over
all_laid rows spns held i e = ap (λ (n : ℕ). tabulate (λ k. width_in rows (get_or spns k 0)) n ++ drop n held) e

pub loop-i-init : goal.loop-i-init
unfolding tabulate
loop-i-init c = (search rules, refl)

pub loop-i-preserved : goal.loop-i-preserved
loop-i-preserved c =
    let a = c.args in (
      search rules,
      rw (c.width_in.ensures, c.loop-i.invariant.1) (write_more (λ k. width_in a.rows.now (get_or a.spns.now k 0)) c.loop-i.i a.widths.now (omega arith)),
    )

pub returns : goal.returns
returns c = c.loop-i.invariant.1 ∙ all_laid _ _ _ c.loop-i.i (omega arith)
