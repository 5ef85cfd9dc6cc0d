-- A Parameter Locate (002, 5.3.2), and the Configuration Identification Messages that answer it (02, Req 03). A dictionary is a function from SPN to width, 0 where
-- it does not have the SPN; each key has its own. Total on any words of a table.
-- Assumes nothing.
use Rattle.std.specs.Prelude.{ℕ, ◌+◌, ◌*◌, Bool, cond, not, ◌&&◌, ◌||◌, List, [], ◌∷◌, ◌++◌, map, eqb, ltb, length}
use Rattle.words.specs.Runs.{only}
use Rattle.answers.specs.Answers.{Said, plain, done, Outcome, outcome}
use Rattle.answers.specs.Tests.{Test, ◌when◌, tested}
use Rattle.frame.specs.Frame.{greatest_identifier, fields_of, pgn_of, destination_of, spn_of}
use Rattle.message.specs.declared.Key.{Key}
use Rattle.message.specs.declared.Head.{Head}
use Rattle.message.specs.declared.Message.{Message}
use Rattle.message.specs.Message.{byte, bytes}
use Rattle.splice.specs.Splice.{splice}
use Rattle.maps.specs.Maps.{Map}
use Rattle.judge.specs.Judge.{start_in, usable, count_of, transport_of, params_of}
use Rattle.lookup.specs.View.{map_in}
use Rattle.lookup.specs.Next.{held_keys}
use Rattle.open.specs.Open.{proprietary_of}
use Rattle.ask.specs.Ask.{position_of}
use Rattle.record.specs.Record.{size}
use Rattle.written.specs.Written.{log_of}

-- ---- the request

-- "Refusals: 1, 2 (not 44800), 3, 24 for another command": the command is byte 8, and 0 asks where a parameter stands (5.3.2.2.1)
abbrev pub request_tests : ℕ → ℕ → List ℕ → List (Test Said)
request_tests id len d =
    plain 1 when ltb greatest_identifier id
    ∷ plain 2 when not (eqb (pgn_of (fields_of id)) 44800)
    ∷ plain 3 when not (eqb len 8)
    ∷ plain 24 when not (eqb (byte d 8) 0)
    ∷ []

-- "the SPN asked": bytes 1 to 3, whose reserved bits are ignored (5.3.2)
abbrev pub spn_asked : List ℕ → ℕ
spn_asked d = spn_of (bytes d 1)

-- a request to a destination is ours where that is our own address or everybody's; "a request to another single address, gives no message"
abbrev pub is_ours : ℕ → ℕ → Bool
is_ours own destination = eqb destination own || eqb destination 255

-- ---- the messages

-- "usable key of our own address that holds it": the SPN has a position in the key's map
abbrev pub tells : (ℕ → ℕ) → ℕ → ℕ → Key → Map → Bool
tells width_of own spn k m = eqb k.source own && (usable width_of m && ltb 0 (position_of width_of m spn))

-- n and the flags of a map
abbrev pub head_in : Map → Head
head_in m = record { n = count_of m; proprietary = proprietary_of m; transport = transport_of m }

-- the message that says where the map of a key has the SPN; its destination is the key's
unfoldable pub placement : (ℕ → ℕ) → ℕ → Key → Map → Message
placement width_of spn k m = record {
  key = k;
  head = head_in m;
  position = position_of width_of m spn;
  place = record { spn = spn; start = start_in (params_of width_of m (position_of width_of m spn)) };
}

module _ (width_of : Key → ℕ → ℕ) (look : Key → Map) (own spn : ℕ) where
  -- those of some keys, in their order, that answer
  abbrev pub telling : List Key → List Key
  telling ks = only (λ k. tells (width_of k) own spn k (look k)) ks

  -- "one message per usable key of our own address that holds it"
  abbrev pub messages_of : List Key → List Message
  messages_of ks = map (λ k. placement (width_of k) spn k (look k)) (telling ks)

-- of the held keys, "in key order"
abbrev pub located_keys : (Key → ℕ → ℕ) → List ℕ → ℕ → ℕ → List Key
located_keys width_of t own spn = telling width_of (map_in t) own spn (held_keys t)

abbrev pub located : (Key → ℕ → ℕ) → List ℕ → ℕ → ℕ → List Message
located width_of t own spn = messages_of width_of (map_in t) own spn (held_keys t)

-- what answers a request
abbrev pub answers_to : (Key → ℕ → ℕ) → List ℕ → ℕ → ℕ → List ℕ → List Message
answers_to width_of t own id d = cond (is_ours own (destination_of (fields_of id))) (located width_of t own (spn_asked d)) []

-- ---- the log

-- "13 where start plus 13 a message exceeds the log"
abbrev pub room_tests : List Message → List ℕ → ℕ → List (Test Said)
room_tests ms log start = plain 13 when ltb (length log) (start + size * length ms) ∷ []

-- "laid into the caller's frame log starting at a given byte and nowhere else". "Answer 0 carries the count of messages"
abbrev pub lay_done : List Message → List ℕ → ℕ → Outcome
lay_done ms log start = outcome (done (length ms)) (splice log start (log_of ms))

-- the call: "1, 2 (not 44800), 3, 24 .., then 13 ..; none is then written"
unfoldable pub located_by : (Key → ℕ → ℕ) → List ℕ → ℕ → ℕ → ℕ → List ℕ → List ℕ → ℕ → Outcome
located_by width_of t own id len d log start =
    tested (request_tests id len d ++ room_tests (answers_to width_of t own id d) log start) log (lay_done (answers_to width_of t own id d) log start)
