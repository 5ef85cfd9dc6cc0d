-- `with_odd`: two runs. Assumes nothing.
use mathlib.Core.Path.{ap, ◌∙◌}
use Prim.Native.Nat.{ℕ, ◌+◌, ◌-◌, ◌/◌, ◌^◌}
use native.Mathlib.Omega.{arith}
use Rattle.places.proofs.Place.{whole}
use Rattle.single.specs.Single.{laid_at}
use Rattle.single.proofs.Cutting.{odd_lies}
use Rattle.single.proofs.Laying.{two_laid}
use Rattle.single.proofs.with_odd.Goals as goal

pub with_run-low-requires : goal.with_run-low-requires
with_run-low-requires c = omega (arith, odd_lies _ _ _ c.requires.0 c.requires.2 c.left_bit-left.ensures)

pub overflow_cast-left : goal.overflow_cast-left
overflow_cast-left c = omega (arith, odd_lies _ _ _ c.requires.0 c.requires.2 c.left_bit-left.ensures)

pub overflow_shr-value : goal.overflow_shr-value
overflow_shr-value c = omega (arith, odd_lies _ _ _ c.requires.0 c.requires.2 c.left_bit-left.ensures)

pub with_run-requires : goal.with_run-requires
with_run-requires c = omega (arith, odd_lies _ _ _ c.requires.0 c.requires.2 c.left_bit-left.ensures)

pub returns : goal.returns
returns c =
    let a = c.args in
    let at = (odd_lies _ _ _ c.requires.0 c.requires.2 c.left_bit-left.ensures).0 in
    c.with_run.ensures
    ∙ ap (λ (x : ℕ). laid_at (λ i. x + i) (a.width - whole a.width) c.with_run-low.result (a.value / 2 ^ whole a.width)) at
    ∙ two_laid a.word a.start a.width a.value _ c.with_run-low.ensures
