-- What the words hold of a key, as a map: total on any words, also on those that no run of calls produces.
-- Assumes nothing.
use Rattle.std.specs.Prelude.{ℕ, zero, suc, cond, List, [], ◌∷◌, eqb, ltb, length}
use Rattle.message.specs.declared.Key.{Key}
use Rattle.maps.specs.Maps.{Map, Nothing}
use Rattle.history.specs.History.{most_keys}
use Rattle.keyrow.specs.Row.{key_number, key_named, state_word, key_word, form_word}
use Rattle.keyrow.specs.View.{form_edition, row_map}
use Rattle.lookup.specs.Layout.{row_of, slot_of}

-- the map of a key: that of the lowest row that holds it
unfoldable pub map_in : List ℕ → Key → Map
map_in t k = cond (ltb (slot_of t (key_number k)) most_keys) (row_map (row_of t (slot_of t (key_number k)))) Nothing

-- the words of a key's row, none where the key is not held
unfoldable pub row_for : List ℕ → Key → List ℕ
row_for t k = cond (ltb (slot_of t (key_number k)) most_keys) (row_of t (slot_of t (key_number k))) []

-- the edition of a key: that of its row, and 2010 where the key is not held (02, Req 10)
unfoldable pub edition_in : List ℕ → Key → ℕ
edition_in t k = form_edition (form_word (row_for t k))

-- ---- how many keys are held

-- the keys of the rows that are not free, of the first n rows
unfoldable pub keys_to : List ℕ → ℕ → List Key
keys_to t zero = []
keys_to t (suc i) = cond (eqb (state_word (row_of t i)) 0) (keys_to t i) (key_named (key_word (row_of t i)) ∷ keys_to t i)

abbrev pub key_count : List ℕ → ℕ
key_count t = length (keys_to t most_keys)
