-- The 13 bytes of a record, both ways (01, "The listing program": "identifier least significant byte first, length, 8 data bytes").
-- Assumes nothing.
use Rattle.std.specs.Prelude.{ℕ, ◌+◌, ◌*◌, ◌/◌, ◌%◌, ◌^◌, ◌<◌, cond, List, [], ◌∷◌, ltb, length, get_or}
use Rattle.answers.specs.Answers.{Outcome, outcome, plain}
use Rattle.splice.specs.Splice.{fits, laid}
use Rattle.record.specs.declared.Record.{Record}

-- "records of 13 bytes"
abbrev pub size : ℕ
size = 13

-- four bytes as one number, the least significant first
abbrev pub four_of : ℕ → ℕ → ℕ → ℕ → ℕ
four_of a b c d = a + b * 2 ^ 8 + c * 2 ^ 16 + d * 2 ^ 24

-- the record in the first 13 bytes of a list, or one of zeros where there are fewer
unfoldable pub record_in : List ℕ → Record
record_in l =
    cond (ltb (length l) size) (record { id = 0; len = 0; bytes = 0 ∷ 0 ∷ 0 ∷ 0 ∷ 0 ∷ 0 ∷ 0 ∷ 0 ∷ [] })
    (record {
      id = four_of (get_or l 0 0) (get_or l 1 0) (get_or l 2 0) (get_or l 3 0);
      len = get_or l 4 0;
      bytes = get_or l 5 0 ∷ get_or l 6 0 ∷ get_or l 7 0 ∷ get_or l 8 0 ∷ get_or l 9 0 ∷ get_or l 10 0 ∷ get_or l 11 0 ∷ get_or l 12 0 ∷ [];
    })

-- the 13 bytes of a frame
unfoldable pub bytes_of : ℕ → ℕ → List ℕ → List ℕ
bytes_of id len d =
    id % 2 ^ 8
    ∷ id / 2 ^ 8 % 2 ^ 8
    ∷ id / 2 ^ 16 % 2 ^ 8
    ∷ id / 2 ^ 24
    ∷ len
    ∷ get_or d 0 0
    ∷ get_or d 1 0
    ∷ get_or d 2 0
    ∷ get_or d 3 0
    ∷ get_or d 4 0
    ∷ get_or d 5 0
    ∷ get_or d 6 0
    ∷ get_or d 7 0
    ∷ []

-- a record laid over the first 13 bytes; 13, and nothing written, where there are fewer
unfoldable pub written : List ℕ → ℕ → ℕ → List ℕ → Outcome
written l id len d = outcome (plain (cond (fits l 0 (bytes_of id len d)) 0 13)) (laid l 0 (bytes_of id len d))

-- a list of bytes: what the type of a slice carries
abbrev pub Bytes : List ℕ → Type 0
Bytes [] = Unit {0}
Bytes (x ∷ l) = (x < 2 ^ 8) × Bytes l
