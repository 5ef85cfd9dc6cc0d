-- Runs of the two calls, with any frames, from fresh memory: what they made of it, and what happened in them. A run is a list of calls, the latest first.
-- Assumes nothing.
use Rattle.std.specs.Prelude.{ℕ, ◌+◌, ◌≡◌, List, [], ◌∷◌, ◌++◌, map, length}
use Rattle.words.specs.Runs as runs
use Rattle.answers.specs.Tests.{in_order}
use Rattle.frame.specs.Frame.{fields_of}
use Rattle.message.specs.Message.{served_tests}
use Rattle.session.specs.Cut.{size_said, pgn_said}
use Rattle.transport.specs.Rows.{Memory, memory, fresh_heads}
use Rattle.transport.specs.Calls.{request_pgn, packet_pgn, pair_in, request_tests, opens, requested, takes, arrived}
use Rattle.arrivals.specs.Events.{Event, Asks, Brings}

-- a call with an identifier, a length and data
pub data Call : Type 0 where
  Request : ℕ → ℕ → List ℕ → Call
  Packet : ℕ → ℕ → List ℕ → Call

-- ---- the memory

-- nobody holds a row; the bytes may be any
pub record Fresh (m : Memory) : Type 0 where
  pub heads : m.heads ≡ fresh_heads
  pub bytes : length m.bytes ≡ 14280

-- the memory after a call: what `request` and `packet` promise, whatever buffer is lent for the payload
abbrev pub after_call : Memory → Call → Memory
after_call m (Request id len d) = memory (requested m.heads id len d).memory m.bytes
after_call m (Packet id len d) = (arrived m [] id len d).lent

unfoldable pub run : Memory → List Call → Memory
run m [] = m
run m (c ∷ cs) = after_call (run m cs) c

-- ---- the events

-- a frame that its tests refuse is none: one of another PGN or another length, a request that is not sound
abbrev pub heard : Call → List Event
heard (Request id len d) =
    in_order (λ n. []) (served_tests request_pgn id len (fields_of id) ++ request_tests d) (Asks (pair_in (fields_of id)) (size_said d) (pgn_said d) ∷ [])
heard (Packet id len d) = in_order (λ n. []) (served_tests packet_pgn id len (fields_of id)) (Brings (pair_in (fields_of id)) d ∷ [])

unfoldable pub happened : List Call → List Event
happened [] = []
happened (c ∷ cs) = heard c ++ happened cs

-- what an event makes of the memory
abbrev pub event : Memory → Event → Memory
event m (Asks pair size pgn) = memory (opens m.heads (pair + 1) size pgn).memory m.bytes
event m (Brings pair d) = (takes m [] (pair + 1) d).lent

abbrev pub memory_by : Memory → List Event → Memory
memory_by m h = runs.fold event m h

-- packets as a pair brings them
abbrev pub brought : ℕ → List (List ℕ) → List Event
brought pair packets = map (λ d. Brings pair d) packets
