use mathlib.Core.Path.{◌≡◌}
use Prim.Native.Nat.{ℕ, ◌*◌, ◌/◌, ◌^◌}
use Rattle.bits.specs.Bits.{bit_at, masked}
use Rattle.bits.proofs.put_bytes.Given as goal

abbrev pub invariant-loop-i : goal.invariant-loop-i
invariant-loop-i l =
    (l.m ≡ l.mask / 2 ^ (8 * l.i)) × (l.b ≡ l.bits / 2 ^ (8 * l.i)) × ((p : ℕ) → bit_at l.out p ≡ masked l.k l.i l.mask l.bits p (bit_at l.initial.out p))
