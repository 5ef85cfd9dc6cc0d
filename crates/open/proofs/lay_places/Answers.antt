-- `lay_places`: after i turns each list has the first i numbers, and it is known whether one of the first i cells is empty. Assumes nothing.
use Prim.Native.Nat.{ℕ, ◌+◌}
use mathlib.Core.Path.{◌≡◌, refl, sym, ap, ◌∙◌}
use native.Mathlib.Omega.{arith}
use native.Mathlib.Numerals.{add-one}
use borrow.Author.Rules.{rules}
use lib.ListN.{get_or}
use Rattle.keyrow.specs.View.{place_of}
use Rattle.words.specs.Lists.{tabulate}
use Rattle.words.specs.First.{any}
use Rattle.words.proofs.Lowest.{any-zero, any-more}
use Rattle.judge.specs.Judge.{spn_in, start_in}
use Rattle.open.specs.Open.{width_row}
use Rattle.open.specs.Unfolded.{unfolded, empty_at}
use Rattle.open.proofs.Unfolded.{spn_there_lem, start_there_lem, turn}
use Rattle.open.proofs.lay_places.Goals as goal

pub loop-i-init : goal.loop-i-init
unfolding unfolded tabulate
loop-i-init c = record { spns = refl; starts = refl; empty = sym (any-zero _) }

pub loop-i-preserved : goal.loop-i-preserved
loop-i-preserved c =
    let a = c.args in
    let l = c.loop-i.invariant in
    let there = width_row a.row.now in
    let cell = place_of (get_or a.row.now (3 + c.loop-i.i) 0) in
    record {
      spns = turn spn_in a.row.now a.spns.now _ c.loop-i.i _ (search rules) (omega arith) l.spns (c.spn_of.ensures ∙ spn_there_lem there cell);
      starts = turn start_in a.row.now a.starts.now _ c.loop-i.i _ (search rules) (omega arith) l.starts (c.start_of.ensures ∙ start_there_lem there cell);
      empty = rw (l.empty, add-one) (sym (any-more (empty_at a.row.now) c.loop-i.i));
    }

pub returns : goal.returns
returns c =
    let a = c.args in
    let l = c.loop-i.invariant in
    let e : c.loop-i.i ≡ a.n = omega arith in (
      l.spns ∙ ap (λ (k : ℕ). unfolded spn_in a.row.now k a.spns.now) e,
      l.starts ∙ ap (λ (k : ℕ). unfolded start_in a.row.now k a.starts.now) e,
      l.empty ∙ ap (any (empty_at a.row.now)) e,
    )
