-- `shares`: a parameter is two runs, and both end at or before its end. Assumes nothing.
use mathlib.Core.Path.{◌≡◌, sym, ap, ap₂, ◌∙◌}
use mathlib.Core.Bool.{◌||◌}
use Prim.Native.Nat.{ℕ, ◌+◌, ◌-◌}
use native.Mathlib.Omega.{arith}
use Rattle.places.specs.Place.{place, meet}
use Rattle.places.proofs.Place.{whole, left, left-place, skipped-most, shares_runs, shares_after}
use Rattle.places.proofs.shares.Goals as goal

-- the second starts at or after the end of the first
pub returns-then-end_bit-s2 : goal.returns-then-end_bit-s2
returns-then-end_bit-s2 c =
    let a = c.args in
    sym (shares_after a.s1 a.w1 a.s2 a.w2 (omega (arith, c.end_bit.ensures, c.if-end_bit-s2.true)))

pub run_shares-requires-2 : goal.run_shares-requires-2
run_shares-requires-2 c =
    let begins : let a = c.args in c.left_bit.result ≡ left a.s1 a.w1 = let a = c.args in c.left_bit.ensures ∙ left-place a.s1 a.w1 in
    omega (arith, begins, skipped-most c.args.w1, c.ranges.s1.fits, c.ranges.w1.fits)

pub returns : goal.returns
returns c =
    let begins : let a = c.args in c.left_bit.result ≡ left a.s1 a.w1 = let a = c.args in c.left_bit.ensures ∙ left-place a.s1 a.w1 in
    let a = c.args in
    ap₂ ◌||◌ c.run_shares.ensures
    (c.run_shares-2.ensures ∙ ap (λ (x : ℕ). meet (λ i. x + i) (a.w1 - whole a.w1) (place a.s2 a.w2) a.w2) (begins))
    ∙ sym (shares_runs a.s1 a.w1 a.s2 a.w2)
