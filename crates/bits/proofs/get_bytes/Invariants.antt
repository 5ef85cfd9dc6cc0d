use mathlib.Core.Path.{◌≡◌}
use Prim.Native.Nat.{◌+◌, ◌-◌, ◌*◌}
use Rattle.bits.specs.Bits.{run_at}
use Rattle.bits.proofs.get_bytes.Given as goal

abbrev pub invariant-loop-i : goal.invariant-loop-i
invariant-loop-i l = l.sum ≡ run_at l.payload (8 * (l.k + l.i)) (8 * (l.n - l.i))
