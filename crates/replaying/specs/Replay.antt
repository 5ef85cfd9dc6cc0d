-- What a trace is replayed as, from the trace alone: no words, no chunk. Assumes nothing.
use Rattle.std.specs.Prelude.{ℕ, ◌+◌, Bool, false, not, cond, eqb, length}
use mathlib.Core.List.{List, [], ◌∷◌, ◌++◌, flatten}
use Rattle.words.specs.Runs.{only}
use Rattle.answers.specs.Answers.{plain}
use Rattle.record.specs.Sized.{left_by, over_by}
use Rattle.pairs.specs.declared.Command.TheVariants.{Add as AddPgn, Delete as DeletePgn, Renew as RenewMode}
use Rattle.ports.specs.Filters.{fresh_words, commanded}
use Rattle.bridge.specs.Bridge.{Stands, stands}
use Rattle.traffic.specs.Traffic.{Event, counters_of, waiting, wrapped}
use Rattle.traffic.specs.Runs.{Call, Arrives, Leaves, Order, filters_by, happened}
use Rattle.trace.specs.declared.Entry.{Entry}
use Rattle.trace.specs.declared.Entry.TheVariants.{Frame, Slot, Add, Delete, Renew, Other}
use Rattle.trace.specs.Entry.{entry_in}
use Rattle.replaying.specs.declared.Counts.{Counts}
use Rattle.replaying.specs.Lines.{replay_with}

-- the entries of a trace, the latest first
abbrev pub tell : List Entry → List ℕ → List Entry
tell es r = entry_in r ∷ es

unfoldable pub entries_of : List ℕ → List Entry
entries_of trace = over_by tell 14 [] trace

-- an entry as a call, if it is one
abbrev pub call_of : Entry → List Call
call_of (Frame port id) = Arrives port id ∷ []
call_of (Slot port) = Leaves port ∷ []
call_of (Add from to pgn) = Order from to (AddPgn pgn) ∷ []
call_of (Delete from to pgn) = Order from to (DeletePgn pgn) ∷ []
call_of (Renew from to mode) = Order from to (RenewMode mode) ∷ []
call_of Other = []

unfoldable pub calls_of : List Entry → List Call
calls_of [] = []
calls_of (e ∷ es) = call_of e ++ calls_of es

-- what happened on that day, from fresh filters, counters and queues
abbrev pub events_of : List Entry → List Event
events_of es = happened fresh_words (calls_of es)

-- ---- counts

-- the kind of an entry: 0 a frame, 1 a slot, 2 a command of the fitter, 3 none of these
abbrev pub kind_of : Entry → ℕ
kind_of (Frame port id) = 0
kind_of (Slot port) = 1
kind_of (Add from to pgn) = 2
kind_of (Delete from to pgn) = 2
kind_of (Renew from to mode) = 2
kind_of Other = 3

abbrev pub is_frame : Entry → Bool
is_frame e = eqb (kind_of e) 0

abbrev pub is_slot : Entry → Bool
is_slot e = eqb (kind_of e) 1

abbrev pub is_command : Entry → Bool
is_command e = eqb (kind_of e) 2

abbrev pub is_other : Entry → Bool
is_other e = eqb (kind_of e) 3

abbrev pub how_often : (Entry → Bool) → List Entry → ℕ
how_often p es = length (only p es)

-- whether a command is refused by the filters of its moment: an answer that is not 0
abbrev pub refuses : List ℕ → Entry → Bool
refuses w (Frame port id) = false
refuses w (Slot port) = false
refuses w (Add from to pgn) = not (eqb (commanded w from to (AddPgn pgn)).answer.number 0)
refuses w (Delete from to pgn) = not (eqb (commanded w from to (DeletePgn pgn)).answer.number 0)
refuses w (Renew from to mode) = not (eqb (commanded w from to (RenewMode mode)).answer.number 0)
refuses w Other = false

unfoldable pub refused_in : List Entry → ℕ
refused_in [] = 0
refused_in (e ∷ es) = refused_in es + cond (refuses (filters_by fresh_words (calls_of es)) e) 1 0

abbrev pub counts_of : List Entry → Counts
counts_of es = record {
  events = wrapped (length es);
  frames = wrapped (how_often is_frame es);
  slots = wrapped (how_often is_slot es);
  commands = wrapped (how_often is_command es);
  refused = wrapped (refused_in es);
  other = wrapped (how_often is_other es);
}

-- ---- the text

-- what is known of a pair: the numbers that the trace defines
abbrev pub known : List Entry → ℕ → ℕ → Stands
known es f t = stands (plain 0) (counters_of (events_of es) f t) (waiting (events_of es) f t)

unfoldable pub replay_of : List ℕ → List ℕ
replay_of trace = flatten (replay_with (known (entries_of trace)) (counts_of (entries_of trace)) (length (left_by 14 trace)))
