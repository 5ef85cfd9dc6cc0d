-- Three bytes and their number: each way undoes the other, for a PGN and for an SPN with the five bits that it leaves.
-- Assumes nothing.
use Prim.Native.Nat.{ℕ, ◌+◌, ◌*◌, ◌/◌, ◌%◌, ◌<◌}
use mathlib.Core.Path.{◌≡◌, ap, ◌∙◌}
use lib.Pow.{low}
use native.Mathlib.Nat.{mod-eq_of_lt}
use native.Mathlib.Omega.{arith}
use Rattle.frame.specs.declared.Three.{Three}
use Rattle.frame.specs.Frame.{three_of, pgn_bytes, spn_bytes, spn_of, rest_of}

-- each is a byte
pub record Bytes (b : Three) : Type 0 where
  pub low : b.first < 256
  pub mid : b.second < 256
  pub high : b.third < 256

-- the low byte of a number
low_byte : (hi : ℕ) {lo n : ℕ} → lo < 256 → n ≡ hi * 256 + lo → n % 256 ≡ lo
low_byte hi h e = ap (λ (x : ℕ). x % 256) e ∙ low hi 8 h

-- a PGN of at most 24 bits comes back from its bytes, and any three bytes from their number
pub pgn_back : (pgn : ℕ) → pgn < 16777216 → three_of (pgn_bytes pgn) ≡ pgn
pgn_back pgn h = omega arith

pub pgn-bytes_back : (b : Three) → Bytes b → pgn_bytes (three_of b) ≡ b
pgn-bytes_back b h =
    let p : three_of b % 256 ≡ b.first = low_byte (b.second + b.third * 256) h.low (omega arith) in
    let q : three_of b / 256 % 256 ≡ b.second = low_byte b.third h.mid (omega arith) in
    let u : three_of b / 65536 ≡ b.third = omega arith in
    let r : three_of b / 65536 % 256 ≡ b.third = ap (λ (x : ℕ). x % 256) u ∙ mod-eq_of_lt h.high in
    λ i. record { first = p i; second = q i; third = r i }

-- a 19-bit SPN and five further bits come back from their bytes, and any three bytes from the two
pub spn_back : (spn rest : ℕ) → spn < 524288 → spn_of (spn_bytes spn rest) ≡ spn
spn_back spn rest h = omega arith

pub rest_back : (spn rest : ℕ) → rest < 32 → rest_of (spn_bytes spn rest) ≡ rest
rest_back spn rest h = omega arith

pub spn-bytes_back : (b : Three) → Bytes b → spn_bytes (spn_of b) (rest_of b) ≡ b
spn-bytes_back b h =
    let p : spn_of b % 256 ≡ b.first = low_byte (b.second + b.third / 32 * 256) h.low (omega arith) in
    let q : spn_of b / 256 % 256 ≡ b.second = low_byte (b.third / 32) h.mid (omega arith) in
    let u : spn_of b / 65536 ≡ b.third / 32 = omega arith in
    let v : b.third / 32 % 8 * 32 + rest_of b % 32 ≡ b.third = omega (arith, h.high) in
    let r : spn_of b / 65536 % 8 * 32 + rest_of b % 32 ≡ b.third = ap (λ (x : ℕ). x % 8 * 32 + rest_of b % 32) u ∙ v in
    λ i. record { first = p i; second = q i; third = r i }
