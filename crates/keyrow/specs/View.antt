-- What a row says, as a map: total on any words, also on those that no run of calls produces.
-- Assumes nothing.
use Rattle.std.specs.Prelude.{ℕ, ◌+◌, ◌-◌, ◌*◌, ◌/◌, ◌%◌, ◌^◌, cond, ◌&&◌, List, eqb, leb, set}
use Rattle.std.proofs.Math.Option.{Option, none, some}
use Rattle.message.specs.declared.Head.{Head}
use Rattle.message.specs.declared.Place.{Place}
use Rattle.maps.specs.Maps.{Map, Conflict, Held}
use Rattle.keyrow.specs.Row.{positions, state_word, form_word, cell_word}

-- n and the flags of a form
abbrev pub head_of : ℕ → Head
head_of form = record { n = form % 2 ^ 8; proprietary = eqb (form / 2 ^ 8 % 2) 1; transport = eqb (form / 2 ^ 9 % 2) 1 }

-- the edition of a form: its bit 10, 1 for 2004 ("give each key an edition, held in its record": 02, Req 10)
abbrev pub form_edition : ℕ → ℕ
form_edition form = cond (eqb (form / 2 ^ 10 % 2) 1) 2004 2010

-- a form with another edition, and the words of its row: every other bit and word stay
abbrev pub with_edition : ℕ → ℕ → ℕ
with_edition form edition = cond (eqb edition 2004) (form - form / 2 ^ 10 % 2 * 2 ^ 10 + 2 ^ 10) (form - form / 2 ^ 10 % 2 * 2 ^ 10)

unfoldable pub edited_row : List ℕ → ℕ → List ℕ
edited_row r edition = set r 2 (with_edition (form_word r) edition)

-- SPN and start of a cell
abbrev pub place_of : ℕ → Option Place
place_of cell = cond (eqb cell 0) none (some (record { spn = (cell - 1) % 2 ^ 32; start = (cell - 1) / 2 ^ 32 }))

-- the SPN and the start that stand there, 0 where nothing does
abbrev pub spn_there : Option Place → ℕ
spn_there none = 0
spn_there (some x) = x.spn

abbrev pub start_there : Option Place → ℕ
start_there none = 0
start_there (some x) = x.start

-- what a row says of each position; outside 1 to 64 nothing
abbrev pub place_in : List ℕ → ℕ → Option Place
place_in r p = cond (leb 1 p && leb p positions) (place_of (cell_word r p)) none

-- what a row says whatever its state. Of a row in conflict it is the map before the message that put it there (law as_kept), since that changed no other word
abbrev pub row_as : List ℕ → Map
row_as r = Held (head_of (form_word r)) (place_in r)

-- the map of a row that is not free
unfoldable pub row_map : List ℕ → Map
row_map r = cond (eqb (state_word r) 1) (row_as r) Conflict
