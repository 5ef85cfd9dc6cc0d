use mathlib.Core.Path.{◌≡◌}
use Prim.Native.Nat.{◌≤◌}
use lib.ListN.{length}
use Rattle.places.specs.Place.{size_of}
use Rattle.bits.specs.Bits.{bytes_with}
use Rattle.payload.specs.Payload.{bit_after_all}
use Rattle.payload.proofs.pack_into.Given as goal

abbrev pub invariant-loop-i : goal.invariant-loop-i
invariant-loop-i l =
    (length l.starts ≤ length l.widths) × (l.out ≡ bytes_with (λ p. bit_after_all l.starts l.widths l.numbers l.i p 1) (size_of l.starts l.widths))
