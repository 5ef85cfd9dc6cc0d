-- Laws of the bits of a number, and of a number from its bits. Assumes nothing.
use mathlib.Core.Path.{◌≡◌, refl, sym, ap, ap₂, ◌∙◌}
use mathlib.Core.List.{List}
use mathlib.Core.Logic.{⊎_elim}
use Prim.Native.Nat.{ℕ, zero, suc, ◌+◌, ◌-◌, ◌*◌, ◌/◌, ◌%◌, ◌^◌, ◌<◌}
use native.Mathlib.Nat.{div-one, zero-mul, zero-add, add-zero, add-suc, pow-succ', mod-eq_of_lt, mod-one, zero-lt-suc, not-suc-le-zero, le_of_suc-le-suc, add_comm, add-mul, mul_assoc, add_assoc, eq-or-lt_of_le}
use native.Mathlib.Numerals.{one-add}
use native.Mathlib.Omega.{arith}
use lib.ListN.{length, get_or}
use Rattle.std.proofs.lemmas.Nat.Bits.{bit_at-lt, bit_at_above, bit_at_ones}
use lib.Pow.{pow-add, shr-shr, high, low, field, mod-mod-pow, mod-pow-add}
use lib.Arith.{digits_lt}
use lib.Seq.{ext_get_or}
use Rattle.words.proofs.Lists.{length-tabulate, get_tabulate, tabulate_equal}
use Rattle.bits.specs.Bits.{bit, bit_at, from_bits, bytes_with}

pub bit_lt : (n i : ℕ) → bit n i < 2
unfolding bit
bit_lt n i = bit_at-lt n i

-- bits of a quotient and of a remainder by a power of two
pub bit_shr : (n k i : ℕ) → bit (n / 2 ^ k) i ≡ bit n (k + i)
unfolding bit
bit_shr n k i = ap (λ (x : ℕ). x % 2) (shr-shr n k i)

pub bit-mod : (n k i : ℕ) → i < k → bit (n % 2 ^ k) i ≡ bit n i
unfolding bit
bit-mod n k i h = go (k - suc i) (omega arith)
  where
    go : (d : ℕ) → d + 1 + i ≡ k → bit (n % 2 ^ k) i ≡ bit n i
    go d e = rw (← e, field n (d + 1) i) (mod-mod-pow (n / 2 ^ i) d 1)

-- the bits of a number by a high part and its k low bits
pub bit_low : (hi k lo i : ℕ) → lo < 2 ^ k → i < k → bit (hi * 2 ^ k + lo) i ≡ bit lo i
bit_low hi k lo i l h = sym (bit-mod (hi * 2 ^ k + lo) k i h) ∙ ap (λ (x : ℕ). bit x i) (low hi k l)

pub bit_high : (hi k lo i : ℕ) → lo < 2 ^ k → bit (hi * 2 ^ k + lo) (k + i) ≡ bit hi i
bit_high hi k lo i l = sym (bit_shr (hi * 2 ^ k + lo) k i) ∙ ap (λ (x : ℕ). bit x i) (high hi k l)

-- above a number's bits stand zeros
pub bit_above : (n i : ℕ) → n < 2 ^ i → bit n i ≡ 0
unfolding bit
bit_above n i l = bit_at_above n i i l (omega arith)

-- and a number of w ones has no others below
pub bit_ones : (w i : ℕ) → i < w → bit (2 ^ w - 1) i ≡ 1
unfolding bit
bit_ones w i h = bit_at_ones w i h

bit_small : (b : ℕ) → b < 2 → bit b 0 ≡ b
unfolding bit
bit_small b h = rw div-one (mod-eq_of_lt h)

-- ---- a number from its bits
module _ (f : ℕ → ℕ) (b : (i : ℕ) → f i < 2) where
  pub from_lt : (n : ℕ) → from_bits f n < 2 ^ n
  unfolding from_bits
  from_lt zero = zero-lt-suc 0
  from_lt (suc n) = rw pow-succ' (digits_lt (b n) (from_lt n))

  pub bit-from : (n i : ℕ) → i < n → bit (from_bits f n) i ≡ f i
  unfolding from_bits
  bit-from zero i h = absurd (not-suc-le-zero h)
  bit-from (suc n) i h = ⊎_elim top (λ l. bit_low (f n) n (from_bits f n) i (from_lt n) l ∙ bit-from n i l) (eq-or-lt_of_le (le_of_suc-le-suc h))
    where
      top : i ≡ n → bit (f n * 2 ^ n + from_bits f n) i ≡ f i
      top e =
          ap (bit (f n * 2 ^ n + from_bits f n)) (e ∙ sym (add-zero n)) ∙ bit_high (f n) n (from_bits f n) 0 (from_lt n)
          ∙ bit_small (f n) (b n) ∙ ap f (sym e)

pub from-same : (f g : ℕ → ℕ) (n : ℕ) → ((i : ℕ) → i < n → f i ≡ g i) → from_bits f n ≡ from_bits g n
unfolding from_bits
from-same f g zero h = refl
from-same f g (suc n) h = ap₂ (λ (x y : ℕ). x * 2 ^ n + y) (h n (omega arith)) (from-same f g n (λ i l. h i (omega arith)))

pub from_of : (x n : ℕ) → from_bits (bit x) n ≡ x % 2 ^ n
unfolding from_bits bit
from_of x zero = sym (mod-one x)
from_of x (suc n) = rw (from_of x n, ← one-add n) (sym (mod-pow-add x 1 n))

-- the bits from m on, and the m low ones
pub from-add : (f : ℕ → ℕ) (m n : ℕ) → from_bits f (m + n) ≡ from_bits (λ j. f (m + j)) n * 2 ^ m + from_bits f m
unfolding from_bits
from-add f m zero = rw (add-zero, zero-mul, zero-add)
from-add f m (suc n) = rw (add-suc, from-add f m n, add-mul, mul_assoc, ← pow-add 2 n m, add_comm n m, add_assoc)

-- ---- bytes from bits
pub length-bytes : (f : ℕ → ℕ) (n : ℕ) → length (bytes_with f n) ≡ n
unfolding bytes_with
length-bytes f n = length-tabulate _ n

pub bit_at_lt : (xs : List ℕ) (p : ℕ) → bit_at xs p < 2
unfolding bit_at
bit_at_lt xs p = bit_lt _ _

-- payload bit p by its byte and its place there
pub at-bit : (xs : List ℕ) (p q r : ℕ) → p / 8 ≡ q → p % 8 ≡ r → bit_at xs p ≡ bit (get_or xs q 0) r
unfolding bit_at
at-bit xs p q r e f = ap₂ (λ (x y : ℕ). bit (get_or xs x 0) y) e f

-- bits that are the same give the same bytes
pub bytes_same : (f g : ℕ → ℕ) (n : ℕ) → ((p : ℕ) → p < 8 * n → f p ≡ g p) → bytes_with f n ≡ bytes_with g n
unfolding bytes_with
bytes_same f g n h = tabulate_equal _ _ n (λ k l. from-same _ _ 8 (λ i m. h (8 * k + i) (omega arith)))

pub bit-bytes : (f : ℕ → ℕ) → ((i : ℕ) → f i < 2) → (n p : ℕ) → p < 8 * n → bit_at (bytes_with f n) p ≡ f p
unfolding bit_at bytes_with
bit-bytes f b n p h =
    ap (λ (x : ℕ). bit x (p % 8)) (get_tabulate (λ k. from_bits (λ i. f (8 * k + i)) 8) n (p / 8) (omega arith))
    ∙ bit-from (λ i. f (8 * (p / 8) + i)) (λ i. b (8 * (p / 8) + i)) 8 (p % 8) (omega arith)
    ∙ ap f (omega arith)

-- bytes are what their bits say
pub bytes_by_bits : (f : ℕ → ℕ) (xs : List ℕ) (n : ℕ) → length xs ≡ n → ((k : ℕ) → get_or xs k 0 < 256)
    → ((p : ℕ) → p < 8 * n → bit_at xs p ≡ f p) → xs ≡ bytes_with f n
unfolding bit_at bytes_with
bytes_by_bits f xs n e b h = ext_get_or 0 xs _ (e ∙ sym (length-tabulate _ n)) at
  where
    its : (k i : ℕ) → i < 8 → bit (get_or xs k 0) i ≡ bit_at xs (8 * k + i)
    its k i m = sym (at-bit xs (8 * k + i) k i (omega arith) (omega arith))

    at : (k : ℕ) → k < length xs → get_or xs k 0 ≡ get_or (bytes_with f n) k 0
    at k l =
        sym (mod-eq_of_lt (b k)) ∙ sym (from_of (get_or xs k 0) 8)
        ∙ from-same (bit (get_or xs k 0)) (λ i. f (8 * k + i)) 8 (λ i m. its k i m ∙ h (8 * k + i) (omega arith))
        ∙ sym (get_tabulate _ n k (omega arith))
