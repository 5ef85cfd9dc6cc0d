-- What each question about a key answers, by the key's map alone (01, "Answer numbers", "A set and its judgement" and "Payload bits"). A
-- dictionary is a function from SPN to width, 0 where it does not have the SPN. Nothing here knows how a map lies in memory.
-- Assumes nothing.
use Rattle.std.specs.Prelude.{ℕ, not, ◌||◌, List, [], ◌∷◌, ◌++◌, eqb, ltb, length, drop}
use Rattle.std.proofs.Math.Option.{Option}
use Rattle.answers.specs.Answers.{Said, in_numbers, plain, detailed, done, unusable, Outcome, outcome}
use Rattle.answers.specs.Tests.{Test, ◌when◌, in_order, tested}
use Rattle.words.specs.First.{lowest}
use Rattle.payload.specs.Payload.{packed, read_all}
use Rattle.payload.specs.Calls.{too_wide_in}
use Rattle.states.specs.States.{states_of}
use Rattle.maps.specs.Maps.{Map}
use Rattle.judge.specs.Judge.{Param, is_none, spn_in, start_in, width_in, spn_at, judge, usable, count_of, params_of, starts_of, widths_of, length_of}
use Rattle.open.specs.Open.{is_held}
use Rattle.ask.specs.declared.Found.{Found}
use Rattle.ask.specs.declared.Parameter.{Parameter}

-- the tests that pack, read and find begin with: 11 "key not held", then 12 "map not usable; detail is the judgement and its position"
abbrev pub key_tests : (ℕ → ℕ) → Map → List (Test Said)
key_tests width_of m = plain 11 when not (is_held m) ∷ unusable (judge width_of m) when not (usable width_of m) ∷ []

-- "Pack and read test 11, 12, 13, 14". "Packing takes exactly n numbers in position order and a buffer of at least L bytes"; 14 names the lowest
-- position whose number needs more than its width
abbrev pub pack_tests : (ℕ → ℕ) → Map → List ℕ → List ℕ → List (Test Said)
pack_tests width_of m numbers out =
    plain 13 when (not (eqb (length numbers) (count_of m)) || ltb (length out) (length_of width_of m))
    ∷ detailed 14 (too_wide_in (widths_of width_of m) numbers) when ltb 0 (too_wide_in (widths_of width_of m) numbers)
    ∷ []

-- "Answer 0 of pack carries L as its detail". "Bytes past L keep what they held"
abbrev pub pack_done : (ℕ → ℕ) → Map → List ℕ → List ℕ → Outcome
pack_done width_of m numbers out =
    outcome (done (length_of width_of m)) (packed (starts_of width_of m) (widths_of width_of m) numbers ++ drop (length_of width_of m) out)

-- packing; a refusal leaves the buffer as it was
unfoldable pub packed_by : (ℕ → ℕ) → Map → List ℕ → List ℕ → Outcome
packed_by width_of m numbers out = tested (key_tests width_of m ++ pack_tests width_of m numbers out) out (pack_done width_of m numbers out)

-- ---- reading

-- what reading answers, and what it leaves in the room for numbers and in the room for their states
pub record Reading : Type 0 where
  pub answer : Said
  pub numbers : List ℕ
  pub states : List ℕ

abbrev pub reads : Said → List ℕ → List ℕ → Reading
reads a numbers states = record { answer = a; numbers = numbers; states = states }

-- "Reading takes a payload of exactly L bytes and room for at least n numbers", and for as many states (02, Req 05); it packs nothing, so 14 is never given
abbrev pub read_tests : (ℕ → ℕ) → Map → List ℕ → List ℕ → List ℕ → List (Test Said)
read_tests width_of m payload room states =
    plain 13 when (not (eqb (length payload) (length_of width_of m)) || ltb (length room) (count_of m) || ltb (length states) (count_of m)) ∷ []

-- the numbers that a payload has by a map
abbrev pub numbers_in : (ℕ → ℕ) → Map → List ℕ → List ℕ
numbers_in width_of m payload = read_all (starts_of width_of m) (widths_of width_of m) payload

-- Answer 0 "of read" carries "n"; "Read then says for each number whether it is valid, reserved, error or not available"; "further places keep what they held"
abbrev pub read_done : (ℕ → ℕ) → Map → List ℕ → List ℕ → List ℕ → Reading
read_done width_of m payload room states =
    reads (done (count_of m)) (numbers_in width_of m payload ++ drop (count_of m) room)
    (states_of (widths_of width_of m) (numbers_in width_of m payload) (count_of m) ++ drop (count_of m) states)

-- reading; a refusal leaves both rooms as they were
unfoldable pub read_by : (ℕ → ℕ) → Map → List ℕ → List ℕ → List ℕ → Reading
read_by width_of m payload room states =
    in_order (λ a. reads a room states) (key_tests width_of m ++ read_tests width_of m payload room states) (read_done width_of m payload room states)

-- ---- finding

-- "Finding gives position, start and width", beside its answer
pub record Finding : Type 0 where
  pub answer : Said
  pub position : ℕ
  pub start : ℕ
  pub width : ℕ

-- the code's struct in 01's numbers
abbrev pub found_in : Found → Finding
found_in f = record { answer = in_numbers f.answer; position = f.position; start = f.start; width = f.width }

-- a refusal: all 0
abbrev pub not_found : Said → Finding
not_found a = record { answer = a; position = 0; start = 0; width = 0 }

-- the parameter at a position: its detail is 0
abbrev pub found_at : ℕ → Option Param → Finding
found_at p x = record { answer = done 0; position = p; start = start_in x; width = width_in x }

-- the lowest position from 1 to n that has the SPN, or 0
unfoldable pub position_of : (ℕ → ℕ) → Map → ℕ → ℕ
position_of width_of m spn = lowest (λ i. eqb (spn_at (params_of width_of m) i) spn) (count_of m)

-- "finding an SPN in a key's map tests 11, 12, 18"
abbrev pub find_tests : (ℕ → ℕ) → Map → ℕ → List (Test Said)
find_tests width_of m spn = plain 18 when eqb (position_of width_of m spn) 0 ∷ []

unfoldable pub found_by : (ℕ → ℕ) → Map → ℕ → Finding
found_by width_of m spn =
    in_order not_found (key_tests width_of m ++ find_tests width_of m spn) (found_at (position_of width_of m spn) (params_of width_of m (position_of width_of m spn)))

-- ---- the parameter at a position

-- SPN, start and width of a parameter, beside the answer
pub record Standing : Type 0 where
  pub answer : Said
  pub spn : ℕ
  pub start : ℕ
  pub width : ℕ

-- the code's struct in 01's numbers
abbrev pub standing_in : Parameter → Standing
standing_in p = record { answer = in_numbers p.answer; spn = p.spn; start = p.start; width = p.width }

-- a refusal: all 0
abbrev pub nowhere : Said → Standing
nowhere a = record { answer = a; spn = 0; start = 0; width = 0 }

-- what stands at a position; the width is 0 where the dictionary does not have the SPN
abbrev pub standing : Option Param → Standing
standing x = record { answer = done 0; spn = spn_in x; start = start_in x; width = width_in x }

-- the parameter at a position of a key's map, usable or not: 11 "key not held", then 18 where nothing stands there
abbrev pub stands_tests : (ℕ → ℕ) → Map → ℕ → List (Test Said)
stands_tests width_of m p = plain 11 when not (is_held m) ∷ plain 18 when is_none (params_of width_of m p) ∷ []

unfoldable pub stands_by : (ℕ → ℕ) → Map → ℕ → Standing
stands_by width_of m p = in_order nowhere (stands_tests width_of m p) (standing (params_of width_of m p))
