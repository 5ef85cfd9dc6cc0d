-- Whether a number is a measurement: its state, by the width of its parameter (02, Req 05; J1939-71's ranges, as 02 has them).
-- The states are 0 valid, 1 reserved, 2 error, 3 not available.
-- Assumes nothing.
use Rattle.std.specs.Prelude.{ℕ, ◌/◌, ◌^◌, min, cond, List, ◌++◌, eqb, leb, length, get_or, drop}
use Rattle.words.specs.Lists.{tabulate}
use Rattle.states.specs.declared.State.{State}
use Rattle.states.specs.declared.State.TheVariants.{Valid, Reserved, Error, NotAvailable}
use Rattle.states.specs.declared.Kind.{Kind}
use Rattle.states.specs.declared.Kind.TheVariants.{Unknown, TwoBits, Byte, TwoBytes, FourBytes, NoRow}

-- the number of a state, and of a kind, as the code has them
abbrev pub state_number : State → ℕ
state_number Valid = 0
state_number Reserved = 1
state_number Error = 2
state_number NotAvailable = 3

abbrev pub kind_number : Kind → ℕ
kind_number Unknown = 0
kind_number TwoBits = 1
kind_number Byte = 2
kind_number TwoBytes = 3
kind_number FourBytes = 4
kind_number NoRow = 5

-- "for one byte 0 to 250 valid, 251 to 253 reserved, counting its indicator 251 there, 254 error, 255 not available"
unfoldable pub by_byte : ℕ → ℕ
by_byte b = cond (leb b 250) 0 (cond (leb b 253) 1 (cond (eqb b 254) 2 3))

-- "for two bits 2 error and 3 not available"
unfoldable pub by_two_bits : ℕ → ℕ
by_two_bits x = cond (leb x 1) 0 (cond (eqb x 2) 2 3)

-- the kind of a parameter, "others from its table": which row of J1939-71's table judges its numbers. 1 two bits, 2 one byte, 3 two bytes, 4 four bytes, 5 a width
-- that has no row; 0 where there is no width, since the dictionary does not have the SPN
unfoldable pub kind_of : ℕ → ℕ
kind_of width =
    cond (eqb width 0) 0
    (cond (eqb width 2) 1
    (cond (eqb width 8) 2
    (cond (eqb width 16) 3
    (cond (eqb width 32) 4 5))))

-- what that row says of a number. Two and four bytes go by their top byte; "valid where it has no row"
unfoldable pub state_by : ℕ → ℕ → ℕ
state_by kind number =
    cond (eqb kind 1) (by_two_bits number)
    (cond (eqb kind 2) (by_byte number)
    (cond (eqb kind 3) (by_byte (number / 2 ^ 8))
    (cond (eqb kind 4) (by_byte (number / 2 ^ 24)) 0)))

-- the state of a number of a parameter of this width
abbrev pub state_of : ℕ → ℕ → ℕ
state_of width number = state_by (kind_of width) number

-- "for each number": the first n states by the widths and the numbers
abbrev pub states_of : List ℕ → List ℕ → ℕ → List ℕ
states_of widths numbers n = tabulate (λ i. state_of (get_or widths i 0) (get_or numbers i 0)) n

-- as far as widths, numbers and the room for states all reach
abbrev pub reach : List ℕ → List ℕ → List ℕ → ℕ
reach widths numbers held = min (length widths) (min (length numbers) (length held))

-- the states laid over the start of a room as far as all reach; past that it holds what it held
unfoldable pub states_over : List ℕ → List ℕ → List ℕ → List ℕ
states_over widths numbers held = states_of widths numbers (reach widths numbers held) ++ drop (reach widths numbers held) held
