-- How many digits a number has at most. Assumes nothing.
use Prim.Native.Nat.{ℕ, zero, suc, ◌/◌, ◌%◌, ◌+◌, ◌^◌, ◌≤◌, ◌<◌}
use native.Mathlib.Omega.{arith}
use native.Mathlib.Nat.{pow-suc}
use native.Mathlib.Decide.{dec_lt}
use mathlib.Core.List.{[], ◌∷◌}
use borrow.Author.Tests.{lt-ltb, le-ltb}
use lib.ListN.{length, length-append}
use Rattle.text.specs.Text.{decimal_to, decimal_of}

-- one digit, or those of its tenth and one more
one_more : (most n k : ℕ) → 1 ≤ k → (10 ≤ n → suc (length (decimal_to most (n / 10))) ≤ k) → length (decimal_to (suc most) n) ≤ k
unfolding decimal_to
one_more most n k h more =
    elim (dec_lt n 10) [
      | yes l ↦ rw (lt-ltb n 10 l) h
      | no l ↦ let m = more (omega arith) in rw (le-ltb n 10 (omega arith), length-append (decimal_to most (n / 10)) ((48 + n % 10) ∷ [])) (omega arith)
    ]

-- a number below 10 ^ d has at most d digits
digits : (most n d : ℕ) → n < 10 ^ suc d → length (decimal_to most n) ≤ suc d
unfolding decimal_to
digits zero n d h = omega arith
digits (suc most) n zero h = one_more most n 1 (omega arith) (λ l. omega arith)
digits (suc most) n (suc d) h =
    let ih = digits most (n / 10) d (omega (arith, pow-suc 10 (suc d))) in
    one_more most n (suc (suc d)) (omega arith) (λ l. omega arith)

most_digits : (most n : ℕ) → length (decimal_to most n) ≤ most
unfolding decimal_to
most_digits zero n = omega arith
most_digits (suc most) n = let ih = most_digits most (n / 10) in one_more most n (suc most) (omega arith) (λ l. omega arith)

pub digits_below : (n d : ℕ) → n < 10 ^ suc d → length (decimal_of n) ≤ suc d
unfolding decimal_of
digits_below n d h = digits 20 n d h

-- a byte has three, any number twenty
pub byte_digits : (n : ℕ) → n < 256 → length (decimal_of n) ≤ 3
byte_digits n h = digits_below n 2 (omega arith)

pub any_digits : (n : ℕ) → length (decimal_of n) ≤ 20
unfolding decimal_of
any_digits n = most_digits 20 n
