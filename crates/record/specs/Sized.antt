-- A log cut into records of any size z, and what is carried where it comes in chunks that end anywhere. The step that a program makes at a record may be any. A log has records of 13 bytes
-- (Cut.antt, Chunk.antt), a trace of 14 (02, Req 09). Assumes nothing.
use Rattle.std.specs.Prelude.{ℕ, zero, suc, ◌+◌, ◌*◌, ◌-◌, ◌/◌, min, cond, List, ltb, length, take, drop, replicate}
use Rattle.splice.specs.Splice.{covered}
use Rattle.record.specs.declared.Begun.{Begun}

-- how many whole records there are
unfoldable pub whole_by : ℕ → List ℕ → ℕ
whole_by z l = length l / z

-- the bytes of record i
unfoldable pub record_by : ℕ → List ℕ → ℕ → List ℕ
record_by z l i = take z (drop (i * z) l)

-- the bytes of a cut last record
unfoldable pub left_by : ℕ → List ℕ → List ℕ
left_by z l = drop (whole_by z l * z) l

module _ {S : Type 0} (step : S → List ℕ → S) where
  -- what the first n records make of a start, in their order
  unfoldable pub over_to_by : ℕ → S → List ℕ → ℕ → S
  over_to_by z s l zero = s
  over_to_by z s l (suc n) = step (over_to_by z s l n) (record_by z l n)

  -- what all whole records make of it
  unfoldable pub over_by : ℕ → S → List ℕ → S
  over_by z s l = over_to_by z s l (whole_by z l)

-- how many bytes are carried: z or more, as no cut record leaves, counts as 0
abbrev pub held_by : ℕ → ℕ → ℕ
held_by z left = cond (ltb left z) left 0

-- the bytes that are carried: the first `left` of z
abbrev pub carried_by : ℕ → ℕ → List ℕ → List ℕ
carried_by z left carry = take (held_by z left) carry

-- z bytes: those of a list, as far as they reach, and 0 in the rest
abbrev pub padded_by : ℕ → List ℕ → List ℕ
padded_by z l = covered (replicate z 0) l

-- how many bytes of a chunk of n go behind those that are carried: as many as a record of z lacks, or all of them
abbrev pub taken_by : ℕ → ℕ → ℕ → ℕ
taken_by z left n = min (z - held_by z left) n

-- how far a record is begun then
abbrev pub begun_by : ℕ → ℕ → ℕ → Begun
begun_by z left n = record { left = held_by z left + taken_by z left n; taken = taken_by z left n }
