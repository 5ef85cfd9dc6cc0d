-- The eight sessions in the memory that the caller lends: 8 rows of 4 head words, and 8 rows of 1,785 bytes. Of a row's words: 0 its holder (0 nobody, else 1 above
-- the number of a pair), 1 the number of the packet that comes next, 2 the size, 3 the PGN, in its low three bytes. Total on any words.
-- Assumes nothing.
use Rattle.std.specs.Prelude.{ℕ, ◌+◌, ◌-◌, ◌*◌, ◌%◌, ◌^◌, Bool, List, eqb, get_or, take, replicate}
use Rattle.std.proofs.Math.Option.{Option, none, some}
use Rattle.words.specs.First.{first}
use Rattle.words.specs.Rows.{row_at}
use Rattle.words.specs.Slots.{view}
use Rattle.session.specs.Session.{per_packet, most_bytes, Session}

-- ---- the memory

-- "eight sessions"
abbrev pub sessions : ℕ
sessions = 8

abbrev pub head_words : ℕ
head_words = 4

pub record Memory : Type 0 where
  pub heads : List ℕ
  pub bytes : List ℕ

abbrev pub memory : List ℕ → List ℕ → Memory
memory heads bytes = record { heads = heads; bytes = bytes }

-- head words of which nobody holds a row
unfoldable pub fresh_heads : List ℕ
fresh_heads = replicate (sessions * head_words) 0

-- ---- a row

abbrev pub holder_word : List ℕ → ℕ
holder_word r = get_or r 0 0

abbrev pub next_word : List ℕ → ℕ
next_word r = get_or r 1 0

abbrev pub size_word : List ℕ → ℕ
size_word r = get_or r 2 0

abbrev pub pgn_word : List ℕ → ℕ
pgn_word r = get_or r 3 0

-- the words and the bytes of a session
pub record Row : Type 0 where
  pub head : List ℕ
  pub bytes : List ℕ

abbrev pub row : List ℕ → List ℕ → Row
row head bytes = record { head = head; bytes = bytes }

-- row i
abbrev pub row_of : Memory → ℕ → Row
row_of m i = row (row_at head_words m.heads i) (row_at most_bytes m.bytes i)

-- ---- whose session it is

-- a pair as one number: "One session per source and destination"
abbrev pub pair_number : ℕ → ℕ → ℕ
pair_number source destination = source * 2 ^ 8 + destination

-- a row that the pair holds
abbrev pub row_is : Row → ℕ → Bool
row_is r pair = eqb (holder_word r.head) (pair + 1)

-- the lowest row with this holder, or 8
unfoldable pub row_with : List ℕ → ℕ → ℕ
row_with heads holder = first (λ i. eqb (holder_word (row_at head_words heads i)) holder) sessions

-- what a row's words and bytes mean: of its bytes those of the packets that came
abbrev pub session_in : Row → Session
session_in r = record {
  size = size_word r.head;
  pgn = pgn_word r.head % 2 ^ 24;
  next = next_word r.head;
  bytes = take (per_packet * (next_word r.head - 1)) r.bytes;
}

abbrev pub meant : Option Row → Option Session
meant none = none
meant (some r) = some (session_in r)

-- the session of a pair: that of the lowest row that it holds
abbrev pub session_of : Memory → ℕ → Option Session
session_of m pair = meant (view row_is sessions (row_of m) pair)
