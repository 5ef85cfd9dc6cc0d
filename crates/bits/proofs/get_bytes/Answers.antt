-- `get_bytes`: from the last byte down, what was read is the number of the bytes from i on. Assumes nothing.
use mathlib.Core.Path.{◌≡◌}
use mathlib.Core.List.{List}
use Prim.Native.Nat.{ℕ, ◌+◌, ◌-◌, ◌*◌, ◌^◌, ◌≤◌, ◌<◌}
use native.Mathlib.Omega.{arith}
use Rattle.bits.specs.Bits.{run_at, from_bits}
use Rattle.bits.proofs.Run.{run-most, get_turn}
use Rattle.bits.proofs.get_bytes.Goals as goal

pub loop-i-init : goal.loop-i-init
unfolding run_at from_bits
loop-i-init c = let e : 8 * (c.args.n - c.args.n) ≡ 0 = omega arith in rw e

-- there is room for one byte more
room : (xs : List ℕ) (k n i sum : ℕ) → n ≤ 8 → 0 < i → sum ≡ run_at xs (8 * (k + i)) (8 * (n - i)) → sum < 2 ^ 56
room xs k n i sum l h e = rw e (run-most xs (8 * (k + i)) (8 * (n - i)) 56 (omega arith))

pub overflow_mul-sum : goal.overflow_mul-sum
overflow_mul-sum c = omega (arith, room _ _ _ _ _ c.requires.0 (omega arith) c.loop-i.invariant)

pub overflow_add-sum-in-loop-i : goal.overflow_add-sum-in-loop-i
overflow_add-sum-in-loop-i c =
    let byte = c.args.k + (c.loop-i.i - 1) in
    omega (arith, room _ _ _ _ _ c.requires.0 (omega arith) c.loop-i.invariant, (c.type_inv.payload byte).fits)

pub loop-i-preserved : goal.loop-i-preserved
loop-i-preserved c =
    get_turn c.args.payload.now c.args.k c.args.n c.loop-i.i c.loop-i.sum (omega arith) (omega arith) (c.type_inv.payload (c.args.k + (c.loop-i.i - 1))).fits c.loop-i.invariant
