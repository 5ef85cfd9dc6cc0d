-- A message as a frame says it: the identifier, the eight data bytes (002, 5.3.1; docs/WIRE.md) and the 13 bytes of its record. The other way of `heard`. Total on
-- any numbers: each is cut to the bits that it has on the wire.
-- Assumes nothing.
use Rattle.std.specs.Prelude.{ℕ, ◌+◌, ◌*◌, ◌%◌, ◌^◌, ◌≤◌, ◌<◌, Bool, cond}
use mathlib.Core.List.{List, [], ◌∷◌, map, flatten}
use Rattle.frame.specs.Frame.{pgn_bytes, spn_bytes}
use Rattle.message.specs.declared.Key.{Key}
use Rattle.message.specs.declared.Head.{Head}
use Rattle.message.specs.declared.Place.{Place}
use Rattle.message.specs.declared.Message.{Message}
use Rattle.record.specs.Record.{bytes_of}

-- ---- a frame

-- "priority 6, destination as the key's" (02, Req 03): priority 6, reserved and data page 0, PF 176, PS the destination, the source
unfoldable pub id_of : Key → ℕ
id_of key = 6 * 2 ^ 26 + 176 * 2 ^ 16 + key.destination % 2 ^ 8 * 2 ^ 8 + key.source % 2 ^ 8

-- yes is 1 and no is 0
abbrev pub flag : Bool → ℕ
flag b = cond b 1 0

-- byte 7: from its top bit down proprietary, transport, "first-only as no", and n
abbrev pub head_byte : Head → ℕ
head_byte h = flag h.proprietary * 2 ^ 7 + flag h.transport * 2 ^ 6 + h.n % 2 ^ 5

-- bytes 4 to 8, what the message says of its position: the SPN and, in the five bits that it leaves, the position; byte 7; the starting bit, counted from 1
unfoldable pub five_of : Head → ℕ → Place → List ℕ
five_of h position x =
    (spn_bytes x.spn position).first
    ∷ (spn_bytes x.spn position).second
    ∷ (spn_bytes x.spn position).third
    ∷ head_byte h
    ∷ (x.start + 1) % 2 ^ 8
    ∷ []

-- bytes 1 to 3, the configured PGN 45056 + 256 k, before five more
unfoldable pub with_key : ℕ → List ℕ → List ℕ
with_key k five = (pgn_bytes (45056 + 256 * k)).first ∷ (pgn_bytes (45056 + 256 * k)).second ∷ (pgn_bytes (45056 + 256 * k)).third ∷ five

abbrev pub data_of : Message → List ℕ
data_of m = with_key m.key.k (five_of m.head m.position m.place)

-- ---- records

-- the 13 bytes of a message's record
unfoldable pub record_of : Message → List ℕ
record_of m = bytes_of (id_of m.key) 8 (data_of m)

-- messages as a log, one record behind another
abbrev pub log_of : List Message → List ℕ
log_of ms = flatten (map record_of ms)

-- ---- the messages that a frame can teach: exactly these (proofs/Written.antt)

pub record Teachable (m : Message) : Type 0 where
  pub source : m.key.source < 254
  pub destination : m.key.destination < 256
  pub k : (1 ≤ m.key.k) × (m.key.k ≤ 15)
  pub n : m.head.n ≤ 31
  pub position : (1 ≤ m.position) × (m.position ≤ m.head.n)
  pub spn : m.place.spn < 2 ^ 19
  pub start : m.place.start ≤ 249
