-- What feeding a chunk of a trace makes of the words and of the tally: on any words, any tally and any chunk. A chunk may end anywhere; the bytes of a cut record are carried to the next one.
-- Assumes nothing.
use Rattle.std.specs.Prelude.{ℕ, List, [], ◌∷◌, ◌++◌, length}
use Rattle.answers.specs.Answers.{Outcome}
use Rattle.record.specs.Sized.{left_by, over_by, carried_by, padded_by}
use Rattle.pairs.specs.declared.Command.TheVariants.{Add as AddPgn, Delete as DeletePgn, Renew as RenewMode}
use Rattle.ports.specs.Filters.{commanded}
use Rattle.bridge.specs.Bridge.{Bridge, offered, slotted}
use Rattle.trace.specs.declared.Entry.{Entry}
use Rattle.trace.specs.declared.Entry.TheVariants.{Frame, Slot, Add, Delete, Renew, Other}
use Rattle.trace.specs.Entry.{entry_in}
use Rattle.replaying.specs.declared.Counts.{Counts}
use Rattle.replaying.specs.declared.Tally.{Tally}
use Rattle.replaying.specs.Counts.{no_counts, with_frame, with_slot, with_command, with_other}

-- ---- one record

-- the bridge's words, those of the filters, and the counts
pub record State : Type 0 where
  pub words : Bridge
  pub filters : List ℕ
  pub counts : Counts

abbrev pub state : Bridge → List ℕ → Counts → State
state b w k = record { words = b; filters = w; counts = k }

-- a slot of a port, whoever leaves
abbrev pub slot_words : Bridge → ℕ → Bridge
slot_words b port = (slotted b port 0 0).words

-- the filters that a command left, and its answer counted
abbrev pub with_outcome : State → Outcome → State
with_outcome s o = state s.words o.memory (with_command s.counts o.answer.number)

-- what an entry does
unfoldable pub played : State → Entry → State
played s (Frame port id) = state (offered s.words s.filters port id).words s.filters (with_frame s.counts)
played s (Slot port) = state (slot_words s.words port) s.filters (with_slot s.counts)
played s (Add from to pgn) = with_outcome s (commanded s.filters from to (AddPgn pgn))
played s (Delete from to pgn) = with_outcome s (commanded s.filters from to (DeletePgn pgn))
played s (Renew from to mode) = with_outcome s (commanded s.filters from to (RenewMode mode))
played s Other = state s.words s.filters (with_other s.counts)

-- a record is an entry
unfoldable pub step : State → List ℕ → State
step s r = played s (entry_in r)

-- ---- a chunk

-- a tally that carries these bytes
abbrev pub tally_of : Counts → List ℕ → Tally
tally_of k left = record { counts = k; left = length left; carry = padded_by 14 left }

-- nothing read yet
abbrev pub started : Tally
started = tally_of no_counts []

-- the words and the tally, as one value
pub record Fed : Type 0 where
  pub words : Bridge
  pub filters : List ℕ
  pub tally : Tally

abbrev pub fed : Bridge → List ℕ → Tally → Fed
fed b w t = record { words = b; filters = w; tally = t }

-- what the whole records made of the words and the counts, and the bytes that are left
abbrev pub cut_off : State → List ℕ → Fed
cut_off s left = fed s.words s.filters (tally_of s.counts left)

-- the carried bytes and the chunk, as if they had come as one
unfoldable pub feeding : Bridge → List ℕ → Tally → List ℕ → Fed
feeding b w t chunk =
    cut_off (over_by step 14 (state b w t.counts) (carried_by 14 t.left t.carry ++ chunk)) (left_by 14 (carried_by 14 t.left t.carry ++ chunk))

-- chunk after chunk
unfoldable pub all_fed : Fed → List (List ℕ) → Fed
all_fed f [] = f
all_fed f (x ∷ xs) = all_fed (feeding f.words f.filters f.tally x) xs
