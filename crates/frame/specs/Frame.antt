-- A frame's identifier and the three-byte numbers of a frame's data, as 01 ("A frame") has them.
-- Assumes nothing.
use Rattle.std.specs.Prelude.{ℕ, ◌+◌, ◌-◌, ◌*◌, ◌/◌, ◌%◌, ◌^◌, cond, ltb}
use Rattle.frame.specs.declared.Fields.{Fields}
use Rattle.frame.specs.declared.Three.{Three}

-- the w bits of n from bit k on
abbrev pub bits : ℕ → ℕ → ℕ → ℕ
bits n k w = n / 2 ^ k % 2 ^ w

-- an identifier has 29 bits: answer 1 is given to one "above 2^29 - 1"
abbrev pub greatest_identifier : ℕ
greatest_identifier = 2 ^ 29 - 1

-- "Of the 29 identifier bits, from the top: priority 3, reserved 1, data page 1, PF 8, PS 8, source 8"
abbrev pub fields_of : ℕ → Fields
fields_of id = record {
  priority = bits id 26 3;
  reserved = bits id 25 1;
  page = bits id 24 1;
  pf = bits id 16 8;
  ps = bits id 8 8;
  source = id % 2 ^ 8;
}

-- "The PGN is reserved, data page, PF and PS as one number, with the PS place 0 where PF is below 240"
abbrev pub pgn_of : Fields → ℕ
pgn_of f = f.reserved * 2 ^ 17 + f.page * 2 ^ 16 + f.pf * 2 ^ 8 + cond (ltb f.pf 240) 0 f.ps

-- "The destination is PS where PF is below 240, otherwise 255"
abbrev pub destination_of : Fields → ℕ
destination_of f = cond (ltb f.pf 240) f.ps 255

-- "Three-byte PGNs go least significant byte first"
abbrev pub three_of : Three → ℕ
three_of b = b.first + b.second * 2 ^ 8 + b.third * 2 ^ 16

abbrev pub pgn_bytes : ℕ → Three
pgn_bytes pgn = record { first = pgn % 2 ^ 8; second = bits pgn 8 8; third = bits pgn 16 8 }

-- "A 19-bit SPN goes low byte, second byte, then its top three bits in bits 8 to 6 of the third"; the five bits that it leaves are `rest`'s
abbrev pub spn_bytes : ℕ → ℕ → Three
spn_bytes spn rest = record { first = spn % 2 ^ 8; second = bits spn 8 8; third = bits spn 16 3 * 2 ^ 5 + rest % 2 ^ 5 }

abbrev pub spn_of : Three → ℕ
spn_of b = b.first + b.second * 2 ^ 8 + b.third / 2 ^ 5 * 2 ^ 16

abbrev pub rest_of : Three → ℕ
rest_of b = b.third % 2 ^ 5
