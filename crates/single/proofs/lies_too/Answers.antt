-- `lies_too`: parts below 64, and their sum. Assumes nothing.
use mathlib.Core.Path.{ap}
use Prim.Native.Nat.{ℕ, ◌+◌, ◌%◌}
use native.Mathlib.Omega.{arith}
use Rattle.places.proofs.Place.{skipped-most}
use Rattle.single.proofs.Cutting.{in_parts}
use Rattle.single.proofs.lies_too.Goals as goal

pub overflow_add-end : goal.overflow_add-end
overflow_add-end c = omega (arith, c.skipped_bits.ensures, skipped-most c.args.width)

pub overflow_add-end-2 : goal.overflow_add-end-2
overflow_add-end-2 c = omega (arith, c.skipped_bits.ensures, skipped-most c.args.width)

pub returns : goal.returns
returns c = let a = c.args in in_parts a.start a.width _ (ap (λ (x : ℕ). a.start % 64 + x + a.width % 64) c.skipped_bits.ensures)
