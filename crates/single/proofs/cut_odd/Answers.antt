-- `cut_odd`: two runs. Assumes nothing.
use mathlib.Core.Path.{ap, ◌∙◌}
use Prim.Native.Nat.{ℕ, ◌-◌}
use native.Mathlib.Omega.{arith}
use Rattle.places.proofs.Place.{whole}
use Rattle.single.specs.Single.{run_in}
use Rattle.single.proofs.Cutting.{odd_lies, two_runs_are}
use Rattle.single.proofs.cut_odd.Goals as goal

pub run_in-low-requires : goal.run_in-low-requires
run_in-low-requires c = omega (arith, odd_lies _ _ _ c.requires.0 c.requires.2 c.left_bit-left.ensures)

pub overflow_cast-left : goal.overflow_cast-left
overflow_cast-left c = omega (arith, odd_lies _ _ _ c.requires.0 c.requires.2 c.left_bit-left.ensures)

pub run_in-high-requires : goal.run_in-high-requires
run_in-high-requires c = omega (arith, odd_lies _ _ _ c.requires.0 c.requires.2 c.left_bit-left.ensures)

pub overflow_shl-result : goal.overflow_shl-result
overflow_shl-result c = omega (arith, odd_lies _ _ _ c.requires.0 c.requires.2 c.left_bit-left.ensures)

pub overflow_add-result : goal.overflow_add-result
overflow_add-result c =
    let a = c.args in
    let at = (odd_lies _ _ _ c.requires.0 c.requires.2 c.left_bit-left.ensures).0 in
    omega (arith, two_runs_are a.word a.start a.width _ _ c.requires.1 c.run_in-low.ensures (c.run_in-high.ensures ∙ ap (λ (x : ℕ). run_in a.word x (a.width - whole a.width)) at))

pub returns : goal.returns
returns c =
    let a = c.args in
    let at = (odd_lies _ _ _ c.requires.0 c.requires.2 c.left_bit-left.ensures).0 in
    (two_runs_are a.word a.start a.width _ _ c.requires.1 c.run_in-low.ensures (c.run_in-high.ensures ∙ ap (λ (x : ℕ). run_in a.word x (a.width - whole a.width)) at)).0
