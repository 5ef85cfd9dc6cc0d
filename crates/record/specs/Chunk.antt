-- A log in chunks that end anywhere: the bytes of a cut record are carried to the next chunk (Sized.antt). Assumes nothing.
use Rattle.std.specs.Prelude.{ℕ, List}
use Rattle.record.specs.Record.{size}
use Rattle.record.specs.Sized.{held_by, carried_by, padded_by}

-- how many bytes are carried: 13 or more, as no cut record leaves, counts as 0
abbrev pub left_in : ℕ → ℕ
left_in left = held_by size left

-- the bytes that are carried: the first `left` of 13
abbrev pub carried : ℕ → List ℕ → List ℕ
carried left carry = carried_by size left carry

-- 13 bytes: those of a list, as far as they reach, and 0 in the rest
abbrev pub padded : List ℕ → List ℕ
padded l = padded_by size l
