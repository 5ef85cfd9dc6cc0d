-- Laws of states: 02's ranges said by membership and proved one with the definition, so that each number has exactly one state; and what is laid where there is room for
-- all. Assumes nothing.
use Prim.Native.Nat.{ℕ, ◌/◌, ◌^◌, ◌≤◌, ◌<◌}
use mathlib.Core.Path.{◌≡◌, ap}
use mathlib.Core.Bool.{true}
use mathlib.Core.List.{List, ◌++◌}
use native.Mathlib.Omega.{arith}
use lib.Dec.{eqb, leb}
use lib.ListN.{length, get_or, drop, length-append, get_or-append}
use borrow.Author.Tests.{leb-true, leb-false, eqb-true, eqb-false, ne_eqb, le-leb, lt-leb}
use Rattle.words.proofs.Lists.{tabulate_equal}
use Rattle.words.proofs.Tests.{test}
use Rattle.states.specs.States.{by_byte, by_two_bits, kind_of, state_by, state_of, states_of, reach, states_over}

-- ---- each number has exactly one state

-- "for one byte 0 to 250 valid, 251 to 253 reserved, .. 254 error, 255 not available"; a number that needs more than its byte counts with 255
pub data Byte (b : ℕ) : ℕ → Type 0 where
  valid : b ≤ 250 → Byte b 0
  reserved : 251 ≤ b → b ≤ 253 → Byte b 1
  error : b ≡ 254 → Byte b 2
  missing : 255 ≤ b → Byte b 3

-- "for two bits 2 error and 3 not available"
pub data TwoBits (x : ℕ) : ℕ → Type 0 where
  low : x ≤ 1 → TwoBits x 0
  two : x ≡ 2 → TwoBits x 2
  three : 3 ≤ x → TwoBits x 3

-- "one byte .. two bits .. others from its table, valid where it has no row": two and four bytes by their top byte
pub data State (width number : ℕ) : ℕ → Type 0 where
  bits : {s : ℕ} → width ≡ 2 → TwoBits number s → State width number s
  byte : {s : ℕ} → width ≡ 8 → Byte number s → State width number s
  word : {s : ℕ} → width ≡ 16 → Byte (number / 2 ^ 8) s → State width number s
  long : {s : ℕ} → width ≡ 32 → Byte (number / 2 ^ 24) s → State width number s
  none : (width ≡ 2 → ⊥) → (width ≡ 8 → ⊥) → (width ≡ 16 → ⊥) → (width ≡ 32 → ⊥) → State width number 0

byte-has : (b : ℕ) → Byte b (by_byte b)
unfolding by_byte
byte-has b =
    test (leb b 250) (λ y. rw y (valid (leb-true b 250 y)))
    (λ n. test (leb b 253) (λ y. rw (n, y) (reserved (leb-false b 250 n) (leb-true b 253 y)))
    (λ m. test (eqb b 254) (λ y. rw (n, m, y) (error (eqb-true b 254 y)))
    (λ k. rw (n, m, k) (missing (omega (arith, leb-false b 253 m, eqb-false b 254 k))))))

pub byte-is : {b s : ℕ} → Byte b s → s ≡ by_byte b
unfolding by_byte
byte-is {b} (valid l) = rw (le-leb b 250 l)
byte-is {b} (reserved m l) = rw (lt-leb b 250 m, le-leb b 253 l)
byte-is {b} (error e) = rw e
byte-is {b} (missing l) = rw (lt-leb b 250 (omega arith), lt-leb b 253 (omega arith), ne_eqb b 254 (λ e. omega (arith, e, l)))

bits-has : (x : ℕ) → TwoBits x (by_two_bits x)
unfolding by_two_bits
bits-has x =
    test (leb x 1) (λ y. rw y (low (leb-true x 1 y)))
    (λ n. test (eqb x 2) (λ y. rw (n, y) (two (eqb-true x 2 y)))
    (λ k. rw (n, k) (three (omega (arith, leb-false x 1 n, eqb-false x 2 k)))))

pub bits_is : {x s : ℕ} → TwoBits x s → s ≡ by_two_bits x
unfolding by_two_bits
bits_is {x} (low l) = rw (le-leb x 1 l)
bits_is {x} (two e) = rw e
bits_is {x} (three l) = rw (lt-leb x 1 (omega arith), ne_eqb x 2 (λ e. omega (arith, e, l)))

module _ (width number : ℕ) where
  -- a number has the state that the definition gives
  pub state-has : State width number (state_of width number)
  unfolding kind_of state_by
  state-has =
      test (eqb width 0) (λ z. rw z (none (other z (omega arith)) (other z (omega arith)) (other z (omega arith)) (other z (omega arith))))
      (λ z. test (eqb width 2) (λ y. rw (z, y) (bits (eqb-true width 2 y) (bits-has number)))
      (λ a. test (eqb width 8) (λ y. rw (z, a, y) (byte (eqb-true width 8 y) (byte-has number)))
      (λ b. test (eqb width 16) (λ y. rw (z, a, b, y) (word (eqb-true width 16 y) (byte-has (number / 2 ^ 8))))
      (λ c. test (eqb width 32) (λ y. rw (z, a, b, c, y) (long (eqb-true width 32 y) (byte-has (number / 2 ^ 24))))
      (λ d. rw (z, a, b, c, d) (none (eqb-false width 2 a) (eqb-false width 8 b) (eqb-false width 16 c) (eqb-false width 32 d)))))))
    where
      other : {n : ℕ} → eqb width 0 ≡ true → 0 < n → width ≡ n → ⊥
      other z l e = omega (arith, eqb-true width 0 z, l, e)

  -- and no other
  pub state-is : {s : ℕ} → State width number s → s ≡ state_of width number
  unfolding kind_of state_by
  state-is (bits e t) = rw e (bits_is t)
  state-is (byte e t) = rw e (byte-is t)
  state-is (word e t) = rw e (byte-is t)
  state-is (long e t) = rw e (byte-is t)
  state-is (none a b c d) =
      test (eqb width 0) (λ z. rw z) (λ z. rw (z, ne_eqb width 2 a, ne_eqb width 8 b, ne_eqb width 16 c, ne_eqb width 32 d))

  -- it is one of the four
  pub state-most : state_of width number ≤ 3
  state-most = most state-has
    where
      byte-most : {b s : ℕ} → Byte b s → s ≤ 3
      byte-most (valid l) = omega arith
      byte-most (reserved m l) = omega arith
      byte-most (error e) = omega arith
      byte-most (missing l) = omega arith

      bits_most : {x s : ℕ} → TwoBits x s → s ≤ 3
      bits_most (low l) = omega arith
      bits_most (two e) = omega arith
      bits_most (three l) = omega arith

      most : {s : ℕ} → State width number s → s ≤ 3
      most (bits e t) = bits_most t
      most (byte e t) = byte-most t
      most (word e t) = byte-most t
      most (long e t) = byte-most t
      most (none a b c d) = omega arith

-- ---- what is laid

-- where there is room for all n states, they are those of the n numbers, whatever stands behind these
pub states-first : (ws vs rest held : List ℕ) (n : ℕ) → length ws ≡ n → length vs ≡ n → n ≤ length held → states_over ws (vs ++ rest) held ≡ states_of ws vs n ++ drop n held
unfolding states_over
states-first ws vs rest held n a b l =
    let r : reach ws (vs ++ rest) held ≡ n = omega (arith, a, b, l, length-append vs rest) in
    rw r (ap (λ (x : List ℕ). x ++ drop n held) (tabulate_equal _ _ n (λ i h. ap (state_of (get_or ws i 0)) (get_or-append vs rest 0 i (omega (arith, b, h))))))
