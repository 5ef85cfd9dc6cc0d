-- One row of the learned table, the words of a key. Every definition is total, on any list of words.
-- Of a row: word 0 its state (0 free, 1 held, any other: in conflict), word 1 the key's number, word 2 the form (n and the two flags, in its low ten bits,
-- and in the next bit the edition; the bits above say nothing), word 2 + p the cell of position p (0 nothing, else SPN and start).
-- Assumes nothing.
use Rattle.std.specs.Prelude.{ℕ, ◌+◌, ◌*◌, ◌/◌, ◌%◌, ◌^◌, ◌≤◌, ◌<◌, Bool, cond, not, ◌&&◌, List, eqb, get_or}
use Rattle.message.specs.declared.Key.{Key}
use Rattle.message.specs.declared.Head.{Head}
use Rattle.message.specs.declared.Place.{Place}
use Rattle.message.specs.declared.Message.{Message}

-- ---- sizes

-- the positions of a row: n is at most 64
abbrev pub positions : ℕ
positions = 64

-- the words of a row
abbrev pub row_words : ℕ
row_words = 67

-- ---- numbers

abbrev pub key_of : ℕ → ℕ → ℕ → Key
key_of source destination k = record { source = source; destination = destination; k = k }

-- a key as one number: rising keys are rising numbers, and all are below 2^24
abbrev pub key_number : Key → ℕ
key_number k = k.source * 2 ^ 16 + k.destination * 2 ^ 8 + k.k

abbrev pub key_numbers : ℕ
key_numbers = 2 ^ 24

-- the key that has a number
abbrev pub key_named : ℕ → Key
key_named x = key_of (x / 2 ^ 16) (x / 2 ^ 8 % 2 ^ 8) (x % 2 ^ 8)

abbrev pub one_if : Bool → ℕ
one_if b = cond b 1 0

-- n and the two flags as one number
abbrev pub form_number : Head → ℕ
form_number h = h.n + one_if h.proprietary * 2 ^ 8 + one_if h.transport * 2 ^ 9

-- SPN and start as one number, never 0
abbrev pub cell_of : ℕ → ℕ → ℕ
cell_of spn start = 1 + spn + start * 2 ^ 32

abbrev pub cell_number : Place → ℕ
cell_number p = cell_of p.spn p.start

-- ---- which numbers have their place in a row

-- a key's numbers are bytes
pub record InBytes (k : Key) : Type 0 where
  pub source : k.source < 256
  pub destination : k.destination < 256
  pub number : k.k < 256

-- a message's numbers are found again in a row's words
pub record InRow (m : Message) : Type 0 where
  pub n : m.head.n < 256
  pub first : 1 ≤ m.position
  pub last : m.position ≤ positions
  pub spn : m.place.spn < 2 ^ 32

-- ---- a row

abbrev pub state_word : List ℕ → ℕ
state_word r = get_or r 0 0

abbrev pub key_word : List ℕ → ℕ
key_word r = get_or r 1 0

abbrev pub form_word : List ℕ → ℕ
form_word r = get_or r 2 0

abbrev pub cell_word : List ℕ → ℕ → ℕ
cell_word r p = get_or r (2 + p) 0

-- a row that is not free, with the key's number
abbrev pub words_are : ℕ → ℕ → ℕ → Bool
words_are state word key = not (eqb state 0) && eqb word key

unfoldable pub row_is : List ℕ → ℕ → Bool
row_is r key = words_are (state_word r) (key_word r) key
