-- `lies_in_lem`: an end lies in n bytes where its bytes, rounded up, are no more. Assumes nothing.
use mathlib.Core.Path.{◌≡◌, ap, ◌∙◌}
use Prim.Native.Nat.{ℕ, ◌+◌, ◌*◌, ◌/◌}
use mathlib.Core.Bool.{◌&&◌}
use native.Mathlib.Decide.{dec_lt}
use native.Mathlib.Omega.{arith}
use borrow.Author.Tests.{le-leb, lt-leb}
use lib.Dec.{leb}
use Rattle.places.proofs.Place.{end_most}
use Rattle.bits.specs.Bits.{lies_in}
use Rattle.bits.proofs.lies_in.Goals as goal

up : (e n : ℕ) → leb ((e + 7) / 8) n ≡ leb e (8 * n)
up e n =
    elim (dec_lt (8 * n) e) [
      | yes l ↦ rw (lt-leb ((e + 7) / 8) n (omega arith), lt-leb e (8 * n) l)
      | no l ↦ rw (le-leb ((e + 7) / 8) n (omega arith), le-leb e (8 * n) (omega arith))
    ]

pub overflow_add-result : goal.overflow_add-result
overflow_add-result c = let a = c.args in omega (arith, c.end_bit.ensures, end_most a.start a.width)

pub returns : goal.returns
unfolding lies_in
returns c = let a = c.args in ap (λ (b : _). leb a.width 32 && b) (up c.end_bit.result a.n) ∙ rw c.end_bit.ensures
