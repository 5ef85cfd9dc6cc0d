-- A key's map in hand: what judging answers, and n, the flags and the lists of its parameters. A dictionary is a function from SPN to width, 0 where
-- it does not have the SPN.
-- Assumes nothing.
use Rattle.std.specs.Prelude.{ℕ, suc, min, Bool, true, false, cond, not, List, ◌++◌, ltb, drop}
use Rattle.std.proofs.Math.Option.{Option, none, some}
use Rattle.words.specs.Lists.{tabulate}
use Rattle.answers.specs.Answers.{Judged, Said, said_of, in_numbers, plain, judged}
use Rattle.message.specs.declared.Key.{Key}
use Rattle.dictionary.specs.Dictionary.{width_by}
use Rattle.maps.specs.Maps.{Map, Nothing, Conflict, Held}
use Rattle.judge.specs.Judge.{Param, spn_in, start_in, mark, judge, transport_of, count_of, params_of}
use Rattle.history.specs.History.{most_keys}
use Rattle.keyrow.specs.Row.{positions, key_number, form_word}
use Rattle.keyrow.specs.View.{form_edition, row_as}
use Rattle.open.specs.declared.Opened.{Opened}
use Rattle.lookup.specs.Layout.{row_of, slot_of}
use Rattle.lookup.specs.View.{edition_in}

-- "A key is held while its set isn't empty"
abbrev pub is_held : Map → Bool
is_held Nothing = false
is_held Conflict = true
is_held (Held h places) = true

-- "Forgetting and judging test 11; answer 0 of judging carries the judgement and its position as its detail"
unfoldable pub judged_by : (ℕ → ℕ) → Map → Said
judged_by width_of m = cond (not (is_held m)) (plain 11) (judged (judge width_of m))

-- the key's map as its row has it, also in conflict: what it held when the conflict came. No answer about a key is made of that
unfoldable pub map_as : List ℕ → Key → Map
map_as t k = cond (ltb (slot_of t (key_number k)) most_keys) (row_as (row_of t (slot_of t (key_number k)))) Nothing

-- "Judgement, pack and read use that edition's widths" (02, Req 10): the dictionary of a row, and of a key
abbrev pub width_row : List ℕ → ℕ → ℕ
width_row row = width_by (form_edition (form_word row))

abbrev pub width_for : List ℕ → Key → ℕ → ℕ
width_for t k = width_by (edition_in t k)

-- ---- what is laid into the lists that are lent

abbrev pub proprietary_of : Map → Bool
proprietary_of Nothing = false
proprietary_of Conflict = false
proprietary_of (Held h places) = h.proprietary

-- a width as the judge's slices have it: the mark where nothing stands
abbrev pub marked_width : Option Param → ℕ
marked_width none = mark
marked_width (some x) = x.width

-- how many positions are laid of a map with this n: no more than a row has
abbrev pub reach : ℕ → ℕ
reach n = min n positions

-- a number of each position from 1 to n over the start of a list; past them it holds what it held
abbrev pub listed : (Option Param → ℕ) → (ℕ → ℕ) → Map → List ℕ → List ℕ
listed f width_of m held = tabulate (λ i. f (params_of width_of m (suc i))) (reach (count_of m)) ++ drop (reach (count_of m)) held

-- ---- the call

-- what opening a key's map gives, with the three lists that are lent to it
pub record Opening : Type 0 where
  pub answer : Said
  pub was : Judged
  pub n : ℕ
  pub proprietary : Bool
  pub transport : Bool
  pub spns : List ℕ
  pub starts : List ℕ
  pub widths : List ℕ

-- the code's struct in 01's numbers, and the lists
abbrev pub opened_in : Opened → List ℕ → List ℕ → List ℕ → Opening
opened_in o spns starts widths = record {
  answer = in_numbers o.answer;
  was = said_of o.was;
  n = o.n;
  proprietary = o.proprietary;
  transport = o.transport;
  spns = spns;
  starts = starts;
  widths = widths;
}

-- judging's own answer by the map `m`; its judgement, n, flags and lists by the map `a`. Where the key is not held, nothing is laid
unfoldable pub opened_by : (ℕ → ℕ) → Map → Map → List ℕ → List ℕ → List ℕ → Opening
opened_by width_of m a spns starts widths = record {
  answer = judged_by width_of m;
  was = judge width_of a;
  n = count_of a;
  proprietary = proprietary_of a;
  transport = transport_of a;
  spns = listed spn_in width_of a spns;
  starts = listed start_in width_of a starts;
  widths = listed marked_width width_of a widths;
}
