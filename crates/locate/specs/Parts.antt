-- What the private functions of this room promise. Assumes nothing.
use Rattle.std.specs.Prelude.{ℕ, ◌+◌, ◌-◌, Bool, cond, List, map, eqb, length, get_or}
use Rattle.words.specs.First.{any}
use Rattle.answers.specs.Answers.{Outcome}
use Rattle.answers.specs.Tests.{tested}
use Rattle.message.specs.declared.Key.{Key}
use Rattle.message.specs.declared.Message.{Message}
use Rattle.maps.specs.Maps.{Map}
use Rattle.keyrow.specs.Row.{form_word}
use Rattle.keyrow.specs.View.{head_of, place_of, spn_there}
use Rattle.lookup.specs.View.{map_in, row_for}
use Rattle.ask.specs.Ask.{position_of, stands_by}
use Rattle.written.specs.Written.{record_of}
use Rattle.locate.specs.Locate.{tells, room_tests, lay_done}

-- ---- looking: each key is judged once, and its message is kept

-- whether some cell of a row has the SPN
unfoldable pub mentioned : List ℕ → ℕ → Bool
mentioned row spn = any (λ i. eqb (spn_there (place_of (get_or row (3 + i) 0))) spn) (length row - 3)

-- the position at which a key answers, 0 where it does not
unfoldable pub position_told : (ℕ → ℕ) → ℕ → ℕ → Key → Map → ℕ
position_told width_of own spn k m = cond (tells width_of own spn k m) (position_of width_of m spn) 0

-- ---- laying

-- the message of a key that has the SPN at a position, as the key's row has it
abbrev pub message_at : (ℕ → ℕ) → List ℕ → ℕ → Key → ℕ → Message
message_at width_of t spn k p = record {
  key = k;
  head = head_of (form_word (row_for t k));
  position = p;
  place = record { spn = spn; start = (stands_by width_of (map_in t k) p).start };
}

-- messages laid into a log, one piece for each
abbrev pub pieces_of : List Message → List (List ℕ)
pieces_of ms = map record_of ms

-- 13, or all of them
unfoldable pub laid_out : List Message → List ℕ → ℕ → Outcome
laid_out ms log start = tested (room_tests ms log start) log (lay_done ms log start)
