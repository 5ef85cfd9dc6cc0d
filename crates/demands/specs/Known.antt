-- What is known of a key, and all that is: its edition and its map. Every answer about a key is a function of these two.
-- Assumes nothing.
use Rattle.std.specs.Prelude.{ℕ, List}
use Rattle.message.specs.declared.Key.{Key}
use Rattle.maps.specs.Maps.{Map, map_of}
use Rattle.history.specs.History.{Event, since, edition_of}
use Rattle.lookup.specs.View.{map_in, edition_in}

pub record Known : Type 0 where
  pub edition : ℕ
  pub map : Map

-- as the words of a table have it
abbrev pub known_in : List ℕ → Key → Known
known_in t k = record { edition = edition_in t k; map = map_in t k }

-- as a history gives it: "the messages since the last forget and the edition last set since then"
abbrev pub known_by : List Event → Key → Known
known_by h k = record { edition = edition_of h k; map = map_of (since h k) }
