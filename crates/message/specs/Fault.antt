-- Why a frame is refused as a message: 01's number of each case of the code's enum (01, "Answer numbers").
-- Assumes nothing.
use Rattle.std.specs.Prelude.{ℕ, Option, None, Some}
use Rattle.message.specs.declared.Fault.{Fault}
use Rattle.message.specs.declared.Fault.TheVariants.{Identifier, OtherPgn, Length, Source, Foreign, Unflagged, Miscounted, Misplaced}

abbrev pub fault_number : Fault → ℕ
fault_number Identifier = 1
fault_number OtherPgn = 2
fault_number Length = 3
fault_number Source = 4
fault_number Foreign = 5
fault_number Unflagged = 6
fault_number Miscounted = 7
fault_number Misplaced = 8

-- the number of a fault, 0 where there is none
abbrev pub number_told : Option Fault → ℕ
number_told None = 0
number_told (Some x) = fault_number x
