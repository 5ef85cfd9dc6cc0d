-- What the private functions of this room promise. Assumes nothing.
use Rattle.std.specs.Prelude.{Option, None, Some, Result, Ok, Err, ℕ, ◌+◌, ◌≤◌, ◌<◌, ◌≡◌, ◌≢◌, true, cond, ◌&&◌, List, eqb, leb, ltb, length, take}
use Rattle.answers.specs.Answers.{Said, plain, at, unusable, detailed, done, Outcome, outcome}
use Rattle.payload.specs.declared.Unlaid.{Unlaid}
use Rattle.payload.specs.declared.Unlaid.TheVariants.{Unplaced, Length, TooWide}
use Rattle.payload.specs.Calls.{Left, reading}
use Rattle.states.specs.States.{states_over}
use Rattle.ask.specs.Ask.{Reading, reads}
use Rattle.maps.specs.Maps.{Map}
use Rattle.judge.specs.Judge.{usable, count_of, starts_of, widths_of}
use Rattle.keyrow.specs.Row.{positions, state_word, cell_word}

-- what judging answered, as the tests 11 and 12 go by it: 0 where the map is usable
unfoldable pub ready_by : Said → Said
ready_by a = cond (eqb a.number 0) (cond (eqb a.judgement 0) (plain 0) (unusable (at a.judgement a.position))) a

-- a refusal, which is what the tests said
pub record Refused (a said : Said) : Type 0 where
  pub same : a ≡ said
  pub refuses : a.number ≢ 0

-- a usable map opened for its payloads, into two arrays: n, and its starts and widths over the start of the arrays
pub record InHand (width_of : ℕ → ℕ) (m : Map) (n : ℕ) (starts widths : List ℕ) : Type 0 where
  pub good : usable width_of m ≡ true
  pub count : n ≡ count_of m
  pub few : n ≤ positions
  pub starts-are : take n starts ≡ starts_of width_of m
  pub widths-are : take n widths ≡ widths_of width_of m

-- the index of the position p, of n; none where p is 0
abbrev pub IsPosition : ℕ → Option ℕ → ℕ → Type 0
IsPosition n None p = p ≡ 0
IsPosition n (Some i) p = (p ≡ i + 1) × (i < n)

-- the cell of a position, and 0, where nothing stands, in conflict and outside 1 to 64
unfoldable pub cell_at : List ℕ → ℕ → ℕ
cell_at row p = cond (eqb (state_word row) 1 && (leb 1 p && leb p positions)) (cell_word row p) 0

-- a cell at which something stands; none where it is 0
abbrev pub IsCell : Option ℕ → ℕ → Type 0
IsCell None cell = cell ≡ 0
IsCell (Some c) cell = (c ≡ cell) × (c ≢ 0)

-- 01's answer for each of payload's cases. Of a map with the dictionary's widths a position has no place where its parameter ends beyond bit 14,280, judgement 7;
-- a usable map has no such position (law usable_placed)
abbrev pub said_by : Result ℕ Unlaid → Said
said_by (Ok d) = done d
said_by (Err (Unplaced p)) = unusable (at 7 p)
said_by (Err Length) = plain 13
said_by (Err (TooWide p)) = detailed 14 p

-- what payload's calls leave, as an outcome of a call of 01
abbrev pub as_outcome : Left → Outcome
as_outcome l = outcome (said_by l.laying) l.buffer

-- what payload's call left, and where it was done the states of its numbers
unfoldable pub with_states : List ℕ → List ℕ → Outcome → Reading
with_states widths states o = reads o.answer o.memory (cond (eqb o.answer.number 0) (states_over widths o.memory states) states)

-- reading by starts and widths, with the states: 13 where there is no room for a state of each
unfoldable pub read_with : List ℕ → List ℕ → List ℕ → List ℕ → List ℕ → Reading
read_with starts widths payload room states =
    cond (ltb (length states) (length starts)) (reads (plain 13) room states) (with_states widths states (as_outcome (reading starts widths payload room)))
