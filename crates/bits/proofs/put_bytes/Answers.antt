-- `put_bytes`: after i turns the first i bytes have taken their bits. Assumes nothing.
use mathlib.Core.Path.{refl, sym}
use native.Mathlib.Nat.{div-one}
use native.Mathlib.Omega.{arith}
use Rattle.bits.specs.Bits.{bit_at}
use Rattle.bits.proofs.Run.{put_turn, masked_none, byte_less}
use Rattle.bits.proofs.put_bytes.Goals as goal

pub loop-i-init : goal.loop-i-init
loop-i-init c = (sym (div-one _), sym (div-one _), λ p. masked_none _ _ _ p _)

pub loop-i-preserved : goal.loop-i-preserved
loop-i-preserved c =
    let a = c.args in (
      byte_less a.mask c.loop-i.i c.loop-i.m c.loop-i.invariant.0,
      byte_less a.bits c.loop-i.i c.loop-i.b c.loop-i.invariant.1,
      put_turn c.loop-i.out a.k c.loop-i.i a.mask a.bits _ _ _ (bit_at a.out.now) (omega arith) c.loop-i.invariant.2 c.loop-i.invariant.0 c.loop-i.invariant.1
          _ c.merge.ensures refl,
    )
