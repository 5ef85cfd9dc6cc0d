-- `lay_odd`: two runs. Assumes nothing.
use mathlib.Core.Path.{ap, ◌∙◌}
use Prim.Native.Nat.{ℕ, ◌+◌, ◌-◌, ◌/◌, ◌^◌}
use native.Mathlib.Omega.{arith}
use Rattle.places.proofs.Place.{whole, left, left-place, end_runs, odd_skips}
use Rattle.bits.specs.Bits.{bit, bit_at, bit_after}
use Rattle.bits.proofs.Number.{laid_runs}
use Rattle.bits.proofs.lay_odd.Goals as goal

pub put_run-requires : goal.put_run-requires
put_run-requires c = omega (arith, c.requires.1, c.requires.2, end_runs c.args.start c.args.width)

pub overflow_shr-value : goal.overflow_shr-value
overflow_shr-value c = omega (arith, c.requires.1, odd_skips c.args.width c.requires.0)

pub put_run-requires-2 : goal.put_run-requires-2
put_run-requires-2 c = omega (arith, c.requires.1, c.requires.2, end_runs c.args.start c.args.width, left-place c.args.start c.args.width, c.left_bit-left.ensures)

pub returns : goal.returns
returns c p =
    let a = c.args in
    let s = a.start in
    let w = a.width in
    c.put_run-2.ensures p
    ∙ ap (λ (x : ℕ). bit_after (λ i. x + i) (bit (a.value / 2 ^ whole w)) (w - whole w) p (bit_at c.put_run.new.out p)) (c.left_bit-left.ensures ∙ left-place s w)
    ∙ ap (bit_after (λ i. left s w + i) (bit (a.value / 2 ^ whole w)) (w - whole w) p) (c.put_run.ensures p)
    ∙ laid_runs s w a.value p (bit_at a.out.now p)
