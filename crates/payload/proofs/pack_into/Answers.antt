-- `pack_into`: every bit is 1, and after i turns the numbers of the first i parameters are laid. Assumes nothing.
use mathlib.Core.Path.{◌≡◌, refl, ap, ◌∙◌}
use mathlib.Core.List.{List, ◌∷◌}
use Prim.Native.Nat.{ℕ, zero, suc}
use native.Mathlib.Omega.{arith}
use lib.ListN.{length, replicate}
use Rattle.words.specs.Lists.{tabulate}
use borrow.Author.Rules.{rules}
use Rattle.places.proofs.Placed.{placed_widths}
use Rattle.bits.specs.Bits.{bytes_with, from_bits}
use Rattle.payload.specs.Payload.{bit_after_all, packed}
use Rattle.payload.proofs.Turns.{pack_turn}
use Rattle.payload.proofs.pack_into.Goals as goal

-- 255 everywhere is a 1 in every bit
ones : (n : ℕ) → replicate n 255 ≡ bytes_with (λ p. 1) n
unfolding bytes_with tabulate from_bits
ones zero = refl
ones (suc n) = ap (λ (t : List ℕ). 255 ∷ t) (ones n)

pub loop-i-init : goal.loop-i-init
unfolding bit_after_all
loop-i-init c = (placed_widths c.args.starts.now c.args.widths.now c.requires.0, (let e : c.fill.new.self ≡ replicate (length c.args.out.now) 255 = search rules in e) ∙ ones _ ∙ ap (bytes_with (λ p. 1)) c.requires.2)

pub loop-i-preserved : goal.loop-i-preserved
loop-i-preserved c = (
  search rules,
  pack_turn c.args.starts.now c.args.widths.now c.requires.0 c.loop-i.i (omega arith) c.args.numbers.now _ _ c.loop-i.invariant.1 c.put.ensures,
)

pub returns : goal.returns
unfolding packed
returns c =
    let a = c.args in
    let e : c.loop-i.i ≡ length a.starts.now = omega arith in
    rw e at c.loop-i.invariant.1
