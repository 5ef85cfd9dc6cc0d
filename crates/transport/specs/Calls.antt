-- The two calls of the transport protocol (02, Req 14): what each answers and what it leaves in the lent memory, on any words. Assumes nothing.
use Rattle.std.specs.Prelude.{ℕ, ◌+◌, ◌-◌, ◌*◌, cond, not, ◌&&◌, List, [], ◌∷◌, ◌++◌, eqb, ltb, set, Result, Ok, Err}
use Rattle.std.proofs.Math.Option.{some}
use Rattle.words.specs.Rows.{put_at}
use Rattle.answers.specs.Answers.{Said, plain, Outcome, outcome, in_numbers}
use Rattle.answers.specs.Tests.{Test, ◌when◌, in_order}
use Rattle.frame.specs.declared.Fields.{Fields}
use Rattle.frame.specs.Frame.{fields_of, destination_of}
use Rattle.message.specs.Message.{served_tests}
use Rattle.splice.specs.Splice.{splice}
use Rattle.session.specs.Session.{per_packet, most_bytes, mismatched, is_next, is_last, Told, briefly, tell}
use Rattle.session.specs.Cut.{control_of, size_said, packets_said, pgn_said, number_of, seven_of}
use Rattle.transport.specs.declared.Arrived.{Arrived}
use Rattle.transport.specs.declared.Refusal.{Refusal}
use Rattle.transport.specs.declared.Refusal.TheVariants.{NotToSend, Mismatched, AllTaken}
use Rattle.transport.specs.Rows.{sessions, head_words, Memory, memory, next_word, size_word, Row, row_of, pair_number, row_with, session_in}

-- ---- a frame

-- the PGNs of a request to send and of a packet
abbrev pub request_pgn : ℕ
request_pgn = 60416

abbrev pub packet_pgn : ℕ
packet_pgn = 60160

-- the pair of a frame, its source and its destination, and the holder that it is
abbrev pub pair_in : Fields → ℕ
pair_in f = pair_number f.source (destination_of f)

abbrev pub holder_in : Fields → ℕ
holder_in f = pair_in f + 1

-- ---- a request to send

-- "Refusals: 24 another control byte .., 31 size outside 9 to 1,785 or not matching its packet count"
abbrev pub request_tests : List ℕ → List (Test ℕ)
request_tests d = 24 when not (eqb (control_of d) 16) ∷ 31 when mismatched (size_said d) (packets_said d) ∷ []

-- the same of what a request came to: 0, or the number of its refusal
abbrev pub number_said : Result (Unit {0}) Refusal → ℕ
number_said (Ok _) = 0
number_said (Err NotToSend) = 24
number_said (Err Mismatched) = 31
number_said (Err AllTaken) = 30

-- where a holder's session goes: "a new request to send replaces that pair's own session", a pair that has none gets the lowest row that nobody holds; 8 where
-- there is none
unfoldable pub place_for : List ℕ → ℕ → ℕ
place_for heads holder = cond (ltb (row_with heads holder) sessions) (row_with heads holder) (row_with heads 0)

-- the words of a session that begins
abbrev pub open_row : ℕ → ℕ → ℕ → List ℕ
open_row holder size pgn = holder ∷ 1 ∷ size ∷ pgn ∷ []

-- "30 all eight taken by other pairs", or the session begins
unfoldable pub opens : List ℕ → ℕ → ℕ → ℕ → Outcome
opens heads holder size pgn =
    cond (ltb (place_for heads holder) sessions) (outcome (plain 0) (put_at head_words heads (place_for heads holder) (open_row holder size pgn))) (outcome (plain 30) heads)

-- "tested 24, 31, 30 for a request"
unfoldable pub requested : List ℕ → ℕ → ℕ → List ℕ → Outcome
requested heads id len d =
    in_order (λ n. outcome (plain n) heads) (served_tests request_pgn id len (fields_of id) ++ request_tests d) (opens heads (holder_in (fields_of id)) (size_said d) (pgn_said d))

-- ---- a packet

-- what a packet is answered, the PGN beside it, and what the three lent places hold afterwards
pub record Received : Type 0 where
  pub answer : Said
  pub pgn : ℕ
  pub lent : Memory
  pub out : List ℕ

abbrev pub received : Said → ℕ → Memory → List ℕ → Received
received a pgn m out = record { answer = a; pgn = pgn; lent = m; out = out }

-- what the code's answer stands for
abbrev pub arrived_as : Arrived → Memory → List ℕ → Received
arrived_as r m out = received (in_numbers r.answer) r.pgn m out

-- a finished payload is laid over the start of the lent buffer, and "places past its size stay"; any other answer leaves the buffer
abbrev pub noted : Told → Memory → List ℕ → Received
noted t m out = received t.answer t.pgn m (splice out 0 t.payload)

-- the words of a row after packet n: one more came, or the row is nobody's
abbrev pub head_after : List ℕ → ℕ → List ℕ
head_after r n = cond (is_next (next_word r) n && not (is_last (size_word r) n)) (set r 1 (n + 1)) (set r 0 0)

-- its bytes: those of a packet in sequence are laid behind those that came
abbrev pub bytes_after : Row → ℕ → List ℕ → List ℕ
bytes_after r n x = cond (is_next (next_word r.head) n) (splice r.bytes (per_packet * (n - 1)) x) r.bytes

abbrev pub memory_after : Memory → ℕ → List ℕ → Memory
memory_after m i d =
    memory (put_at head_words m.heads i (head_after (row_of m i).head (number_of d)))
    (put_at most_bytes m.bytes i (bytes_after (row_of m i) (number_of d) (seven_of d)))

-- the packet of the holder of row i
unfoldable pub takes_at : Memory → List ℕ → ℕ → List ℕ → Received
takes_at m out i d = noted (tell (some (session_in (row_of m i))) (number_of d) (seven_of d)) (memory_after m i d) out

-- the packet of a holder: "28 no session", or what its row makes of it
unfoldable pub takes : Memory → List ℕ → ℕ → List ℕ → Received
takes m out holder d = cond (ltb (row_with m.heads holder) sessions) (takes_at m out (row_with m.heads holder) d) (noted (briefly 28) m out)

-- "28, 29 for a packet"
unfoldable pub arrived : Memory → List ℕ → ℕ → ℕ → List ℕ → Received
arrived m out id len d = in_order (λ n. noted (briefly n) m out) (served_tests packet_pgn id len (fields_of id)) (takes m out (holder_in (fields_of id)) d)
