-- What one Configuration Identification Message says: the fields of its eight bytes (002, 5.3.1; docs/WIRE.md), and document 01's answers
-- 1 to 8, tested in order.
-- Assumes nothing.
use Rattle.std.specs.Prelude.{ℕ, ◌+◌, ◌-◌, ◌/◌, ◌%◌, ◌^◌, Bool, cond, not, ◌||◌, ◌&&◌, List, [], ◌∷◌, ◌++◌, Result, Ok, Err, eqb, leb, ltb, get_or}
use Rattle.std.proofs.Math.Option.{Option, none, some}
use Rattle.answers.specs.Tests.{Test, ◌when◌, first_number_of}
use Rattle.frame.specs.declared.Fields.{Fields}
use Rattle.frame.specs.declared.Three.{Three}
use Rattle.frame.specs.Frame.{greatest_identifier, bits, fields_of, pgn_of, destination_of, three_of, spn_of, rest_of}
use Rattle.message.specs.declared.Wire.{Wire}
use Rattle.message.specs.declared.Message.{Message}
use Rattle.message.specs.declared.Fault.{Fault}
use Rattle.message.specs.Fault.{fault_number}

-- ---- the wire

-- byte 1 to 8 of the message, as 002 counts
abbrev pub byte : List ℕ → ℕ → ℕ
byte d i = get_or d (i - 1) 0

-- three bytes of the message from byte i on
abbrev pub bytes : List ℕ → ℕ → Three
bytes d i = record { first = byte d i; second = byte d (i + 1); third = byte d (i + 2) }

-- 5.3.1: bytes 1 to 3 the configured PGN; bytes 4 to 6 the SPN and, in the five bits that it leaves, the position; byte 7 from its top bit down
-- the three flags and n; byte 8 the starting bit
abbrev pub wire_of : List ℕ → Wire
wire_of d = record {
  pgn = three_of (bytes d 1);
  spn = spn_of (bytes d 4);
  position = rest_of (bytes d 4);
  n = byte d 7 % 2 ^ 5;
  proprietary = byte d 7 / 2 ^ 7;
  transport = bits (byte d 7) 6 1;
  first = bits (byte d 7) 5 1;
  start = byte d 8;
}

-- ---- the tests

-- "configured PGN not one of the fifteen": they are 45056 + 256 k, k = 1 to 15, so 45312 to 48896
abbrev pub foreign : ℕ → Bool
foreign pgn = ltb pgn 45312 || ltb 48896 pgn || not (eqb (pgn % 256) 0)

-- "a flag is neither 5.3.1.5 to 5.3.1.7's yes nor no": yes is 1 and no is 0
abbrev pub unflagged : ℕ → ℕ → ℕ → Bool
unflagged proprietary transport first = ltb 1 proprietary || ltb 1 transport || ltb 1 first

-- "n outside 1..64, position outside 1..n, or first-only with position not 1"
abbrev pub miscounted : ℕ → ℕ → ℕ → Bool
miscounted n position first =
    eqb n 0 || ltb 64 n || eqb position 0 || ltb n position || (eqb first 1 && not (eqb position 1))

-- "start outside 0..14,279, or a pattern that 5.3.1.8 excludes": the start is the wire's number less 1, and 251 to 255 are excluded.
-- On this wire the limit of 14,280 is idle, since no start above 250 is left: it stands here because 01 names it
abbrev pub misplaced : ℕ → Bool
misplaced wire = eqb wire 0 || ltb 14280 wire || ltb 250 wire

-- what any frame says: identifier above 2^29 - 1; another PGN than the one that a call serves; length. "A later call on a frame tests 1, 2 (by the PGN it serves) and 3
-- first unless its text says otherwise"
abbrev pub served_tests : ℕ → ℕ → ℕ → Fields → List (Test ℕ)
served_tests pgn id len f = 1 when ltb greatest_identifier id ∷ 2 when not (eqb (pgn_of f) pgn) ∷ 3 when not (eqb len 8) ∷ []

-- what the frame of a message says: these, and its source
abbrev pub frame_tests : ℕ → ℕ → Fields → List (Test ℕ)
frame_tests id len f = served_tests 45056 id len f ++ (4 when leb 254 f.source ∷ [])

-- what the eight bytes say
abbrev pub data_tests : Wire → List (Test ℕ)
data_tests w =
    5 when foreign w.pgn
    ∷ 6 when unflagged w.proprietary w.transport w.first
    ∷ 7 when miscounted w.n w.position w.first
    ∷ 8 when misplaced w.start
    ∷ []

-- the first of 1 to 8 that applies, or 0
abbrev pub refusal_of : ℕ → ℕ → Fields → Wire → ℕ
refusal_of id len f w = first_number_of (frame_tests id len f) (first_number_of (data_tests w) 0)

-- ---- the message

-- "A key is (source, destination, k), the addresses being the frame's"; k is the configured PGN's PF less 176. "The start is kept here counted from 0,
-- the position from 1." "The first-only flag is checked and not stored."
abbrev pub message_of : Fields → Wire → Message
message_of f w = record {
  key = record { source = f.source; destination = destination_of f; k = bits w.pgn 8 8 - 176 };
  head = record { n = w.n; proprietary = eqb w.proprietary 1; transport = eqb w.transport 1 };
  position = w.position;
  place = record { spn = w.spn; start = w.start - 1 };
}

-- an answer to a frame: 01's number, and the message where it was taken
pub record Heard : Type 0 where
  pub number : ℕ
  pub message : Option Message

-- what the code's answer stands for
abbrev pub heard_of : Result Message Fault → Heard
heard_of (Err x) = record { number = fault_number x; message = none }
heard_of (Ok m) = record { number = 0; message = some m }

-- the message where there is no refusal
abbrev pub heard_from : ℕ → Fields → Wire → Heard
heard_from refusal f w = record { number = refusal; message = cond (eqb refusal 0) (some (message_of f w)) none }

-- the answer to a frame: its identifier, its length and its eight bytes
unfoldable pub heard : ℕ → ℕ → List ℕ → Heard
heard id len d = heard_from (refusal_of id len (fields_of id) (wire_of d)) (fields_of id) (wire_of d)
