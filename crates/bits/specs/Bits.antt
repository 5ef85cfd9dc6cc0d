-- Bits of numbers and of lists of bytes, and a number laid at its places and read from them (01, "Payload bits"). Assumes nothing.
use Rattle.std.specs.Prelude.{Bool, cond, ◌&&◌, List, ℕ, zero, suc, ◌+◌, ◌-◌, ◌*◌, ◌/◌, ◌%◌, ◌^◌, length, get_or, leb, ltb, eqb}
use Rattle.words.specs.Lists.{tabulate}
use Rattle.places.specs.Place.{place, end_of}

-- bit i of the number n
unfoldable pub bit : ℕ → ℕ → ℕ
bit n i = n / 2 ^ i % 2

-- 01: "Payload bit p is the bit worth 2^(p mod 8) in byte p / 8 rounded down"
unfoldable pub bit_at : List ℕ → ℕ → ℕ
bit_at payload p = bit (get_or payload (p / 8) 0) (p % 8)

-- the number whose bits, the lowest first, are f 0 .. f (n - 1)
unfoldable pub from_bits : (ℕ → ℕ) → ℕ → ℕ
from_bits f zero = 0
from_bits f (suc n) = f n * 2 ^ n + from_bits f n

-- the n bytes whose payload bits are f 0 .. f (8 * n - 1)
unfoldable pub bytes_with : (ℕ → ℕ) → ℕ → List ℕ
bytes_with f n = tabulate (λ k. from_bits (λ i. f (8 * k + i)) 8) n

-- what payload bit p becomes, b before, where the bits g 0 .. g (k - 1) are laid at the payload bits at 0 .. at (k - 1)
unfoldable pub bit_after : (ℕ → ℕ) → (ℕ → ℕ) → ℕ → ℕ → ℕ → ℕ
bit_after at g zero p b = b
bit_after at g (suc k) p b = cond (eqb p (at k)) (g k) (bit_after at g k p b)

-- ---- a parameter's number

-- whether the number has 32 bits at most, and all its places lie in n bytes
unfoldable pub lies_in : ℕ → ℕ → ℕ → Bool
lies_in n start width = leb width 32 && leb (end_of start width) (8 * n)

-- the bytes with a number's bits laid at its places; as they were, where it does not lie in them
unfoldable pub with_number : List ℕ → ℕ → ℕ → ℕ → List ℕ
with_number xs start width value =
    cond (lies_in (length xs) start width) (bytes_with (λ p. bit_after (place start width) (bit value) width p (bit_at xs p)) (length xs)) xs

-- the number whose bit i is the payload bit at the place of bit i
unfoldable pub read_number : List ℕ → ℕ → ℕ → ℕ
read_number payload start width = from_bits (λ i. bit_at payload (place start width i)) width

-- the same, and 0 where it does not lie in the payload
unfoldable pub number_in : List ℕ → ℕ → ℕ → ℕ
number_in payload start width = cond (lies_in (length payload) start width) (read_number payload start width) 0

-- ---- runs, as the code takes them: only the promises of private functions cite these

-- the number whose bits are the n payload bits from `from` on
unfoldable pub run_at : List ℕ → ℕ → ℕ → ℕ
run_at payload from n = from_bits (λ i. bit_at payload (from + i)) n

-- what payload bit p becomes, b before, where the n bytes from byte k on take the bits that a mask has from a number
unfoldable pub masked : ℕ → ℕ → ℕ → ℕ → ℕ → ℕ → ℕ
masked k n mask bits p b = cond (leb (8 * k) p && ltb p (8 * (k + n)) && eqb (bit mask (p - 8 * k)) 1) (bit bits (p - 8 * k)) b
