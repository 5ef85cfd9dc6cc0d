-- A parameter's number in a payload of eight bytes that is held as one number (01, "Payload bits"): payload bit p is then bit p of that number (law same_bits).
-- Assumes nothing.
use Rattle.std.specs.Prelude.{Bool, cond, not, ◌&&◌, ◌||◌, List, ◌++◌, ℕ, ◌/◌, ◌%◌, ◌^◌, leb, ltb, length, get_or, drop}
use Rattle.words.specs.First.{any}
use Rattle.words.specs.Lists.{tabulate}
use Rattle.places.specs.Place.{place, end_of}
use Rattle.bits.specs.Bits.{bit, from_bits, bit_after, lies_in}

-- the n bits from `from` on, as a number
abbrev pub run_in : ℕ → ℕ → ℕ → ℕ
run_in word from n = word / 2 ^ from % 2 ^ n

-- the number whose bit i is the bit at the place of bit i
unfoldable pub number_of : ℕ → ℕ → ℕ → ℕ
number_of word start width = from_bits (λ i. bit word (place start width i)) width

-- whether it has a bit, 32 at most, and all of them in eight bytes
abbrev pub lies_there : ℕ → ℕ → Bool
lies_there start width = leb 1 width && leb width 32 && leb (end_of start width) 64

-- the number, and 0 where it does not lie in eight bytes
unfoldable pub cut_from : ℕ → ℕ → ℕ → ℕ
cut_from word start width = cond (lies_in 8 start width) (number_of word start width) 0

-- ---- the numbers of a map, the lists of its starts and of its widths

-- whether every parameter lies in eight bytes
unfoldable pub all_lie : List ℕ → List ℕ → Bool
all_lie ss ws = not (any (λ i. not (lies_there (get_or ss i 0) (get_or ws i 0))) (length ss))

-- the numbers of all
unfoldable pub numbers_of : ℕ → List ℕ → List ℕ → List ℕ
numbers_of word ss ws = tabulate (λ i. number_of word (get_or ss i 0) (get_or ws i 0)) (length ss)

-- whether they are taken: there are no fewer widths and no fewer places than starts, and every parameter lies in eight bytes
abbrev pub taking : List ℕ → List ℕ → ℕ → Bool
taking ss ws places = not (ltb (length ws) (length ss) || ltb places (length ss)) && all_lie ss ws

-- taken, over the start of a room; else it holds what it held
unfoldable pub taken : ℕ → List ℕ → List ℕ → List ℕ → List ℕ
taken word ss ws held = cond (taking ss ws (length held)) (numbers_of word ss ws ++ drop (length ss) held) held

-- ---- and back

-- the number with the n low bits of value laid at the bits at 0 .. at (n - 1)
abbrev pub laid_at : (ℕ → ℕ) → ℕ → ℕ → ℕ → ℕ
laid_at at n word value = from_bits (λ p. bit_after at (bit value) n p (bit word p)) 64

-- the eight bytes with a number's bits laid at its places; as they were, where it does not lie in them
unfoldable pub laid_on : ℕ → ℕ → ℕ → ℕ → ℕ
laid_on word start width value = cond (lies_in 8 start width) (laid_at (place start width) width word value) word
