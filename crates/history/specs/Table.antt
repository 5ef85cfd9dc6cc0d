-- What a table holds of each key, and what an event makes of it, however the table lies in memory.
-- Assumes nothing.
use Rattle.std.specs.Prelude.{ℕ, Bool, cond, not, ◌&&◌, eqb, leb}
use Rattle.message.specs.declared.Key.{Key}
use Rattle.maps.specs.Maps.{Map, Nothing, is_nothing, is_conflict, learned}
use Rattle.history.specs.History.{most_keys, Event, Learn, Forget, Edition, names, is_edition}

-- of each key what is held, and how many keys are
pub record Table : Type 0 where
  pub look : Key → Map
  pub count : ℕ

-- the key is new and 16 are held
unfoldable pub full : Table → Key → Bool
full t k = is_nothing (t.look k) && leb most_keys t.count

-- the answer to an event
abbrev pub number : Table → Event → ℕ
number t (Learn m) = cond (full t m.key) 9 (cond (is_conflict (learned (t.look m.key) m)) 10 0)
number t (Forget k) = cond (is_nothing (t.look k)) 11 0
number t (Edition k e) = cond (is_nothing (t.look k)) 11 (cond (is_edition e) 0 27)

-- what an event makes of the map of the key that it names: "a command changes one held key's edition and nothing else of it"
abbrev pub step : Map → Event → Map
step M (Learn m) = learned M m
step M (Forget k) = Nothing
step M (Edition k e) = M

-- what is held afterwards: of the key that is named the step, unless the answer is 9, and of every other key what was held
abbrev pub after : Table → Event → Key → Map
after t e k = cond (not (eqb (number t e) 9) && names k e) (step (t.look k) e) (t.look k)
