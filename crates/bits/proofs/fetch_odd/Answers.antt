-- `fetch_odd`: two runs. Assumes nothing.
use mathlib.Core.Path.{◌≡◌, ap, ◌∙◌}
use Prim.Native.Nat.{ℕ, ◌+◌, ◌-◌, ◌*◌, ◌%◌, ◌^◌, ◌<◌}
use native.Mathlib.Omega.{arith}
use Rattle.places.proofs.Place.{whole, left-place, end_runs, odd_skips}
use Rattle.bits.specs.Bits.{run_at, read_number}
use Rattle.bits.proofs.Number.{two_runs}
use Rattle.bits.proofs.fetch_odd.Goals as goal

pub get_run-low-requires : goal.get_run-low-requires
get_run-low-requires c = omega (arith, c.requires.1, c.requires.2, end_runs c.args.start c.args.width)

pub get_run-high-requires : goal.get_run-high-requires
get_run-high-requires c = omega (arith, c.requires.1, c.requires.2, end_runs c.args.start c.args.width, left-place c.args.start c.args.width, c.left_bit-left.ensures)

pub overflow_shl-result : goal.overflow_shl-result
overflow_shl-result c = omega (arith, c.requires.1, odd_skips c.args.width c.requires.0)

pub overflow_add-result : goal.overflow_add-result
overflow_add-result c =
    let sum : let a = c.args in (c.get_run-low.result + c.get_run-high.result * 2 ^ whole a.width % 2 ^ 32 ≡ read_number a.payload.now a.start a.width) × (read_number a.payload.now a.start a.width < 2 ^ 32) = let a = c.args in two_runs a.payload.now a.start a.width _ _ c.requires.1 c.get_run-low.ensures (c.get_run-high.ensures ∙ ap (λ (x : ℕ). run_at a.payload.now x (a.width - whole a.width)) (c.left_bit-left.ensures ∙ left-place a.start a.width)) in
    omega (arith, sum)

pub returns : goal.returns
returns c =
    let sum : let a = c.args in (c.get_run-low.result + c.get_run-high.result * 2 ^ whole a.width % 2 ^ 32 ≡ read_number a.payload.now a.start a.width) × (read_number a.payload.now a.start a.width < 2 ^ 32) = let a = c.args in two_runs a.payload.now a.start a.width _ _ c.requires.1 c.get_run-low.ensures (c.get_run-high.ensures ∙ ap (λ (x : ℕ). run_at a.payload.now x (a.width - whole a.width)) (c.left_bit-left.ensures ∙ left-place a.start a.width)) in
    (sum).0
