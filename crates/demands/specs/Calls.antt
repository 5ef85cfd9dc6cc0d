-- Runs of calls: what they made of the table's words, and what happened in them. A run is a list of calls, the latest first, from the empty table. A call of a
-- later room that changes the table joins with a line in each definition here and a case of `called` (proofs/Calls.antt).
-- Assumes nothing.
use Rattle.std.specs.Prelude.{ℕ, ◌<◌, cond, ◌&&◌, List, [], ◌∷◌, ◌++◌, get_or}
use Rattle.message.specs.declared.Key.{Key}
use Rattle.message.specs.Message.{heard}
use Rattle.record.specs.Record.{Bytes, record_in}
use Rattle.record.specs.Cut.{over}
use Rattle.record.specs.Chunk.{carried}
use Rattle.history.specs.History.{Event, Forget, Edition, is_empty, keys, kept}
use Rattle.history.specs.Frames.{learns}
use Rattle.keyrow.specs.Row.{key_number, InBytes}
use Rattle.table.specs.Learn.{empty_table, learnt}
use Rattle.table.specs.Forget.{forgotten}
use Rattle.edition.specs.Edition.{edited}
use Rattle.feeding.specs.declared.Tally.{Tally}
use Rattle.feeding.specs.Feed.{feeding}
use Rattle.image.specs.Read.{events_of, good, loaded}

-- a frame (its identifier, its length, its data bytes), a forget of a key, an edition asked for a key, a chunk of a log that is fed on top of a tally, the emptying of the
-- table, a load of an image, or a call that only reads the table
pub data Call : Type 0 where
  Frame : ℕ → ℕ → List ℕ → Call
  Forgets : Key → Call
  Sets : Key → ℕ → Call
  Feeds : Tally → List ℕ → Call
  Empties : Call
  Loads : List ℕ → Call
  Reads : Call

-- ---- the words

-- the words after a call: what `learn`, `forget`, `set_edition`, `feed`, `empty` and `load` promise
abbrev pub words_after : List ℕ → Call → List ℕ
words_after t (Frame id len d) = (learnt t id len d).memory
words_after t (Forgets k) = (forgotten t (key_number k)).memory
words_after t (Sets k e) = (edited t (key_number k) e).memory
words_after t (Feeds s chunk) = (feeding t s chunk).words
words_after t Empties = empty_table
words_after t (Loads l) = (loaded t l).memory
words_after t Reads = t

-- the words after a run
unfoldable pub run : List Call → List ℕ
run [] = empty_table
run (c ∷ cs) = words_after (run cs) c

-- ---- the events

-- a frame: its message, where it is well-formed, is learned
abbrev pub framed : List Event → ℕ → ℕ → List ℕ → List Event
framed h id len d = learns (heard id len d).message ++ h

-- the 13 bytes of a record are a frame
unfoldable pub recorded : List Event → List ℕ → List Event
recorded h r = framed h (record_in r).id (record_in r).len (record_in r).bytes

-- what has happened after a call. A chunk is the frames of the records that it completes; emptying begins anew; a load "counts .. as the messages it stands for"
-- and sets their editions, and counts as nothing where it is refused: the image is damaged, or a key is held
abbrev pub events_after : List Event → Call → List Event
events_after h (Frame id len d) = framed h id len d
events_after h (Forgets k) = Forget k ∷ h
events_after h (Sets k e) = Edition k e ∷ h
events_after h (Feeds s chunk) = over recorded h (carried s.left s.carry ++ chunk)
events_after h Empties = []
events_after h (Loads l) = cond (good l && is_empty (keys (kept h))) (events_of l ++ h) h
events_after h Reads = h

-- what happened in a run
unfoldable pub happened : List Call → List Event
happened [] = []
happened (c ∷ cs) = events_after (happened cs) c

-- ---- what the arguments' types carry: bytes are bytes

abbrev pub Carried : Call → Type 0
Carried (Frame id len d) = (i : ℕ) → get_or d i 0 < 256
Carried (Forgets k) = InBytes k
Carried (Sets k e) = InBytes k
Carried (Feeds s chunk) = Bytes s.carry × Bytes chunk
Carried Empties = Unit {0}
Carried (Loads l) = Bytes l
Carried Reads = Unit {0}

abbrev pub AllCarried : List Call → Type 0
AllCarried [] = Unit {0}
AllCarried (c ∷ cs) = Carried c × AllCarried cs
