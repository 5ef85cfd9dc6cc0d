-- What feeding a chunk of a log makes of the words and of the tally: on any words, any tally and any chunk. A chunk may end anywhere; the bytes of a
-- cut record are carried to the next one.
-- Assumes nothing.
use Rattle.std.specs.Prelude.{ℕ, List, [], ◌∷◌, ◌++◌, length}
use Rattle.answers.specs.Answers.{Outcome}
use Rattle.record.specs.Record.{size, record_in}
use Rattle.record.specs.Sized.{begun_by}
use Rattle.record.specs.Cut.{left_of, over}
use Rattle.record.specs.Chunk.{carried, padded}
use Rattle.table.specs.Learn.{learnt}
use Rattle.feeding.specs.declared.Counts.{Counts}
use Rattle.feeding.specs.declared.Tally.{Tally}
use Rattle.feeding.specs.declared.Begun.{Begun}
use Rattle.feeding.specs.Counts.{no_counts, with_answer}

-- ---- one record

-- the words of the table, and the counts
pub record State : Type 0 where
  pub words : List ℕ
  pub counts : Counts

abbrev pub state : List ℕ → Counts → State
state words counts = record { words = words; counts = counts }

-- the words that a call left, and its answer counted
abbrev pub with_outcome : Counts → Outcome → State
with_outcome c o = state o.memory (with_answer c o.answer.number)

-- a record is a frame to learn from
unfoldable pub step : State → List ℕ → State
step s r = with_outcome s.counts (learnt s.words (record_in r).id (record_in r).len (record_in r).bytes)

-- ---- a chunk

-- a tally that carries these bytes
abbrev pub tally_of : Counts → List ℕ → Tally
tally_of c left = record { counts = c; left = length left; carry = padded left }

-- nothing read yet
abbrev pub started : Tally
started = tally_of no_counts []

-- a tally with a chunk behind the bytes that it carries: as many of them as make a record, and how many were taken
abbrev pub begun : Tally → List ℕ → Begun
begun s chunk =
    let b = begun_by size s.left (length chunk) in
    record { tally = record { counts = s.counts; left = b.left; carry = padded (carried s.left s.carry ++ chunk) }; taken = b.taken }

-- the words and the tally, as one value
pub record Fed : Type 0 where
  pub words : List ℕ
  pub tally : Tally

abbrev pub fed : List ℕ → Tally → Fed
fed words tally = record { words = words; tally = tally }

-- what the whole records made of the words and the counts, and the bytes that are left
abbrev pub cut_off : State → List ℕ → Fed
cut_off s left = fed s.words (tally_of s.counts left)

-- the carried bytes and the chunk, as if they had come as one
unfoldable pub feeding : List ℕ → Tally → List ℕ → Fed
feeding words s chunk = cut_off (over step (state words s.counts) (carried s.left s.carry ++ chunk)) (left_of (carried s.left s.carry ++ chunk))

-- chunk after chunk
unfoldable pub all_fed : Fed → List (List ℕ) → Fed
all_fed f [] = f
all_fed f (x ∷ xs) = all_fed (feeding f.words f.tally x) xs
