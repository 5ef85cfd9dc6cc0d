-- A log cut into records: "RECORDS counts the whole records", "LEFT the bytes of a cut last record". Records of any size are cut so (Sized.antt). Assumes nothing.
use Rattle.std.specs.Prelude.{ℕ, List}
use Rattle.record.specs.Record.{size}
use Rattle.record.specs.Sized.{whole_by, record_by, left_by, over_to_by, over_by}

-- how many whole records a log has
abbrev pub whole_in : List ℕ → ℕ
whole_in l = whole_by size l

-- the 13 bytes of record i
abbrev pub record_at : List ℕ → ℕ → List ℕ
record_at l i = record_by size l i

-- the bytes of a cut last record
abbrev pub left_of : List ℕ → List ℕ
left_of l = left_by size l

module _ {S : Type 0} (step : S → List ℕ → S) where
  -- what the first n records of a log make of a start, in their order
  abbrev pub over_to : S → List ℕ → ℕ → S
  over_to s l n = over_to_by step size s l n

  -- what all its whole records make of it
  abbrev pub over : S → List ℕ → S
  over s l = over_by step size s l
