-- A session of the transport protocol (02, Req 14): what the frames of its pair, a source and a destination, made of it since its request to send. With no word
-- of memory. Assumes nothing.
use Rattle.std.specs.Prelude.{ℕ, ◌+◌, ◌*◌, ◌/◌, ◌%◌, ◌^◌, Bool, cond, not, ◌&&◌, ◌||◌, List, [], ◌++◌, eqb, ltb, leb, take}
use Rattle.std.proofs.Math.Option.{Option, none, some}
use Rattle.answers.specs.Answers.{Said, plain, done}

-- ---- sizes

-- "packets carry a sequence number from 1 and 7 bytes, 255 at most, so 1,785 bytes"
abbrev pub per_packet : ℕ
per_packet = 7

abbrev pub most_packets : ℕ
most_packets = 255

abbrev pub most_bytes : ℕ
most_bytes = 1785

-- how many packets carry a payload of this size: size / 7 rounded up
abbrev pub packets_for : ℕ → ℕ
packets_for size = (size + 6) / per_packet

-- 31: "size outside 9 to 1,785 or not matching its packet count"
abbrev pub mismatched : ℕ → ℕ → Bool
mismatched size packets = ltb size 9 || ltb most_bytes size || not (eqb packets (packets_for size))

-- ---- a session

-- what the request said, the number of the packet that comes next, and the bytes that came so far
pub record Session : Type 0 where
  pub size : ℕ
  pub pgn : ℕ
  pub next : ℕ
  pub bytes : List ℕ

-- a request to send opens it: packet 1 comes next. A PGN has three bytes
abbrev pub opened : ℕ → ℕ → Session
opened size pgn = record { size = size; pgn = pgn % 2 ^ 24; next = 1; bytes = [] }

-- one packet more came
abbrev pub grown : Session → List ℕ → Session
grown s x = record { size = s.size; pgn = s.pgn; next = s.next + 1; bytes = s.bytes ++ x }

-- packet n comes in sequence: it is one of 1 to 255, and the one that comes next
unfoldable pub is_next : ℕ → ℕ → Bool
is_next next n = leb n most_packets && (ltb 0 n && eqb next n)

-- and it is the last: n packets carry a payload of this size
unfoldable pub is_last : ℕ → ℕ → Bool
is_last size n = leb size (per_packet * n)

-- ---- a packet

-- what a packet is answered: the answer, the PGN beside it, and the payload that it finished, no byte where it finished none
pub record Told : Type 0 where
  pub answer : Said
  pub pgn : ℕ
  pub payload : List ℕ

abbrev pub told : Said → ℕ → List ℕ → Told
told a pgn payload = record { answer = a; pgn = pgn; payload = payload }

-- an answer that finishes no payload
abbrev pub briefly : ℕ → Told
briefly number = told (plain number) 0 []

-- "the last one's answer 0 carries its size": the payload is as many bytes as the request said, and what is behind them only fills the packet
abbrev pub finished : Session → List ℕ → Told
finished s x = told (done s.size) s.pgn (take s.size (s.bytes ++ x))

-- packet n with its bytes x: "28 no session, 29 out of sequence"
abbrev pub tell : Option Session → ℕ → List ℕ → Told
tell none n x = briefly 28
tell (some s) n x = cond (is_next s.next n) (cond (is_last s.size n) (finished s x) (briefly 0)) (briefly 29)

-- what it makes of the session: "A packet out of sequence drops its session", and with the last one "the session ends"
abbrev pub after : Option Session → ℕ → List ℕ → Option Session
after none n x = none
after (some s) n x = cond (is_next s.next n && not (is_last s.size n)) (some (grown s x)) none
