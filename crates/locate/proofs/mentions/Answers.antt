-- `locate::mentions` meets its contract: no cell passed has the SPN. Assumes nothing.
use Prim.Native.Nat.{ℕ, ◌+◌, ◌-◌}
use mathlib.Core.Path.{◌≡◌, sym, ap, ◌∙◌}
use mathlib.Core.Bool.{Bool}
use mathlib.Core.List.{List}
use native.Mathlib.Decide.{dec_lt}
use native.Mathlib.Omega.{arith}
use borrow.Author.Rules.{rules}
use borrow.Author.Tests.{eq-eqb, ne_eqb}
use lib.Dec.{eqb}
use lib.ListN.{length, get_or}
use Rattle.words.proofs.Lowest.{any_at, any_none}
use Rattle.keyrow.specs.View.{place_of, spn_there}
use Rattle.locate.specs.Parts.{mentioned}
use Rattle.locate.proofs.mentions.Goals as goal

-- word i of the row, as a cell, has the SPN
abbrev has : List ℕ → ℕ → ℕ → Bool
has row spn i = eqb (spn_there (place_of (get_or row i 0))) spn

pub loop-i-init : goal.loop-i-init
loop-i-init c = (search rules, λ k l. absurd (omega (arith, l)))

pub returns-then-spn_of-spn : goal.returns-then-spn_of-spn
unfolding mentioned
returns-then-spn_of-spn c =
    let a = c.args in
    let row = a.row.now in
    let e : 3 + (c.loop-i.i - 3) ≡ c.loop-i.i = omega (arith, c.loop-i.invariant.0) in
    sym (any_at (λ k. has row a.spn (3 + k)) (length row - 3) (c.loop-i.i - 3) (omega (arith, c.loop-i-test.true, c.loop-i.invariant.0))
    (ap (has row a.spn) e ∙ eq-eqb _ _ (sym c.spn_of.ensures ∙ c.if-spn_of-spn.true)))

pub loop-i-preserved : goal.loop-i-preserved
loop-i-preserved c =
    let a = c.args in (
      omega (arith, c.loop-i.invariant.0),
      λ k h. elim (dec_lt (3 + k) c.loop-i.i) [
        | yes b ↦ c.loop-i.invariant.1 k b
        | no b ↦ let e : 3 + k ≡ c.loop-i.i = omega (arith, h) in ap (has a.row.now a.spn) e ∙ ne_eqb _ _ (λ q. c.if-spn_of-spn.false (c.spn_of.ensures ∙ q))
      ],
    )

pub returns : goal.returns
unfolding mentioned
returns c = sym (any_none _ _ (λ k h. c.loop-i.invariant.1 k (omega (arith, h, c.loop-i-test.false))))
