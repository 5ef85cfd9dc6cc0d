-- What packing and reading a payload means, on any map (01, "Payload bits"). A map is the lists of its starts and of its widths. Assumes nothing.
use Rattle.std.specs.Prelude.{◌≡◌, cond, List, ℕ, zero, suc, ◌^◌, ◌<◌, length, get_or}
use Rattle.words.specs.Lists.{tabulate}
use Rattle.places.specs.Place.{bit_place, assigned, size_of}
use Rattle.bits.specs.Bits.{bit, bit_at, bytes_with, bit_after, read_number}

-- what payload bit p becomes, b before, where the numbers of the first n parameters are laid at their places, in order:
-- where two of them share p, the later one has it
unfoldable pub bit_after_all : List ℕ → List ℕ → List ℕ → ℕ → ℕ → ℕ → ℕ
bit_after_all ss ws vs zero p b = b
bit_after_all ss ws vs (suc n) p b = bit_after (bit_place ss ws n) (bit (get_or vs n 0)) (get_or ws n 0) p (bit_after_all ss ws vs n p b)

-- the packed payload: each number's bits at their places, and "all other bits of the L bytes are 1"
unfoldable pub packed : List ℕ → List ℕ → List ℕ → List ℕ
packed ss ws vs = bytes_with (λ p. bit_after_all ss ws vs (length ss) p 1) (size_of ss ws)

-- the numbers of a map, in position order
unfoldable pub read_all : List ℕ → List ℕ → List ℕ → List ℕ
read_all ss ws payload = tabulate (λ i. read_number payload (get_or ss i 0) (get_or ws i 0)) (length ss)

-- the payload with its unassigned bits set to 1
unfoldable pub filled : List ℕ → List ℕ → List ℕ → List ℕ
filled ss ws payload = bytes_with (λ p. cond (assigned ss ws p) (bit_at payload p) 1) (length payload)

-- what the laws ask of numbers: as many as parameters, and none needs more than its width
pub record Fit (ss ws vs : List ℕ) : Type 0 where
  pub count : length vs ≡ length ss
  pub each : (i : ℕ) → i < length ss → get_or vs i 0 < 2 ^ get_or ws i 0
