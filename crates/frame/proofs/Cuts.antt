-- Shifts and masks are quotients and remainders: the one law, over the place and the width, that every field of an identifier cites.
-- Assumes nothing.
use mathlib.Core.Path.{◌≡◌}
use Prim.Native.Nat.{ℕ, ◌-◌, ◌/◌, ◌^◌}
use lib.Dec.{T, leb}
use lib.Bits.{bit_and, and_mask, mask_lt}
use mir.Syntax.{w8}
use mir.Val.{Fits}
use mir.Facts.{Fits-bits}
use Rattle.frame.specs.Frame.{bits}

-- (n >> k) & (2^w - 1) is n / 2^k % 2^w
pub cut : (n k w : ℕ) → bit_and (n / 2 ^ k) (2 ^ w - 1) ≡ bits n k w
cut n k w = and_mask (n / 2 ^ k) w

-- and a cut of at most 8 bits fits a byte
pub cut_fits : (n w : ℕ) → T (leb w 8) → Fits w8 (bit_and n (2 ^ w - 1))
cut_fits n w t = Fits-bits w t (mask_lt n w)
