-- What the words hold of a key, by the row that holds it: what every call that asks the table goes by. On any words. Assumes nothing.
use Prim.Native.Nat.{ℕ, ◌≤◌, ◌<◌}
use mathlib.Core.Path.{◌≡◌}
use mathlib.Core.Option.{Option, none, some}
use mathlib.Core.List.{List}
use borrow.Author.Tests.{lt-ltb, le-ltb}
use lib.Dec.{ltb}
use Rattle.words.specs.Slots as slots
use Rattle.message.specs.declared.Key.{Key}
use Rattle.maps.specs.Maps.{Map, Nothing}
use Rattle.words.proofs.Tests.{test}
use Rattle.history.specs.History.{most_keys}
use Rattle.lookup.specs.Layout.{row_of, slot_of}
use Rattle.keyrow.specs.Row.{key_number, form_word, row_is}
use Rattle.lookup.specs.View.{map_in, row_for, edition_in}
use Rattle.keyrow.specs.View.{form_edition, row_map}

-- a row holds the key: its map is that row's
pub map_at : (t : List ℕ) (k : Key) → slot_of t (key_number k) < most_keys → map_in t k ≡ row_map (row_of t (slot_of t (key_number k)))
unfolding map_in
map_at t k h = rw (lt-ltb (slot_of t (key_number k)) most_keys h)

-- no row does
pub map_none : (t : List ℕ) (k : Key) → most_keys ≤ slot_of t (key_number k) → map_in t k ≡ Nothing
unfolding map_in
map_none t k h = rw (le-ltb (slot_of t (key_number k)) most_keys h)

-- the edition in the same way
pub edition-at : (t : List ℕ) (k : Key) → slot_of t (key_number k) < most_keys → edition_in t k ≡ form_edition (form_word (row_of t (slot_of t (key_number k))))
unfolding edition_in row_for
edition-at t k h = rw (lt-ltb (slot_of t (key_number k)) most_keys h)

pub edition_none : (t : List ℕ) (k : Key) → most_keys ≤ slot_of t (key_number k) → edition_in t k ≡ 2010
unfolding edition_in row_for
edition_none t k h = rw (le-ltb (slot_of t (key_number k)) most_keys h)

-- the same by the view of a table of slots
abbrev pub held_map : Option (List ℕ) → Map
held_map none = Nothing
held_map (some r) = row_map r

abbrev pub held_edition : Option (List ℕ) → ℕ
held_edition none = 2010
held_edition (some r) = form_edition (form_word r)

pub edition-view : (t : List ℕ) (k : Key) → edition_in t k ≡ held_edition (slots.view row_is most_keys (row_of t) (key_number k))
unfolding edition_in row_for slot_of slots.view
edition-view t k = test (ltb (slot_of t (key_number k)) most_keys) (λ h. rw h) (λ n. rw n)

pub map-view : (t : List ℕ) (k : Key) → map_in t k ≡ held_map (slots.view row_is most_keys (row_of t) (key_number k))
unfolding map_in slot_of slots.view
map-view t k = test (ltb (slot_of t (key_number k)) most_keys) (λ h. rw h) (λ n. rw n)
