-- `run_shares`: a parameter is two runs. Assumes nothing.
use mathlib.Core.Path.{◌≡◌, sym, ap, ap₂, ◌∙◌}
use mathlib.Core.Bool.{◌||◌}
use Prim.Native.Nat.{ℕ, ◌+◌, ◌-◌}
use native.Mathlib.Omega.{arith}
use Rattle.places.specs.Place.{meet}
use Rattle.places.proofs.Place.{whole, left, left-place, skipped-most, run_meets}
use Rattle.places.proofs.run_shares.Goals as goal

pub runs_share-requires-2 : goal.runs_share-requires-2
runs_share-requires-2 c =
    let begins : let a = c.args in c.left_bit.result ≡ left a.start a.width = let a = c.args in c.left_bit.ensures ∙ left-place a.start a.width in
    (c.requires, omega (arith, begins, skipped-most c.args.width, c.ranges.start.fits, c.ranges.width.fits))

pub returns : goal.returns
returns c =
    let begins : let a = c.args in c.left_bit.result ≡ left a.start a.width = let a = c.args in c.left_bit.ensures ∙ left-place a.start a.width in
    let a = c.args in
    ap₂ ◌||◌ c.runs_share.ensures
    (c.runs_share-2.ensures ∙ ap (λ (x : ℕ). meet (λ i. a.from + i) a.n (λ i. x + i) (a.width - whole a.width)) (begins))
    ∙ sym (run_meets a.from a.n a.start a.width)
