-- The words after any list of events, from the empty table, keep to the history that the list is. Assumes nothing.
use Prim.Native.Nat.{ℕ}
use native.Mathlib.Omega.{arith}
use mathlib.Core.Path.{◌≡◌}
use mathlib.Core.List.{List, [], ◌∷◌, ◌++◌, foldr-append}
use Rattle.words.proofs.First.{first_none}
use Rattle.words.proofs.Tests.{test}
use Rattle.message.specs.declared.Key.{Key}
use Rattle.maps.specs.Maps.{Nothing}
use Rattle.history.specs.History.{most_keys, Event}
use Rattle.history.proofs.Follows.{Calls, start, call}
use Rattle.keyrow.specs.Row.{key_number, row_is}
use Rattle.keyrow.proofs.RowKeys.{free-is}
use Rattle.lookup.specs.Layout.{row_of, slot_of}
use Rattle.lookup.specs.View.{map_in, edition_in}
use Rattle.table.specs.Learn.{empty_table}
use Rattle.learned.specs.Events.{event, words_from, words_by, AllInWords}
use Rattle.learned.proofs.View.{map_none, edition_none}
use Rattle.learned.proofs.KeyNumbers.{in_bytes}
use Rattle.learned.proofs.Sane.{Sane, sane_empty, all_empty}
use Rattle.learned.proofs.Count.{table_of, sound}
use Rattle.learned.proofs.Events.{sane_event, event-after}

-- ---- one list of events after another: whatever a call's events are

pub words_append : (t : List ℕ) (a b : List Event) → words_from t (a ++ b) ≡ words_from (words_from t b) a
words_append t a b = foldr-append (λ e u. (event u e).memory) t a b

pub all_append : (a b : List Event) → AllInWords a → AllInWords b → AllInWords (a ++ b)
all_append [] b f g = g
all_append (e ∷ a) b f g = (f.0, all_append a b f.1 g)

-- ---- the words

pub sane_by : (h : List Event) → AllInWords h → Sane (words_by h)
sane_by [] f = sane_empty
sane_by (e ∷ h) f = sane_event (words_by h) (sane_by h f.1) e f.0

no_slot : (a : ℕ) → slot_of empty_table a ≡ most_keys
unfolding slot_of
no_slot a = first_none (λ i. row_is (row_of empty_table i) a) most_keys (λ i h. free-is (row_of empty_table i) a (all_empty i h))

none_held : (k : Key) → map_in empty_table k ≡ Nothing
none_held k = map_none empty_table k (omega (arith, no_slot (key_number k)))

pub empty_edition : (k : Key) → edition_in empty_table k ≡ 2010
empty_edition k = edition_none empty_table k (omega (arith, no_slot (key_number k)))

-- they hold what the history says
pub calls_by : (h : List Event) → AllInWords h → Calls h (table_of (words_by h))
calls_by [] f = start (sound empty_table sane_empty) (λ k. test (in_bytes k) (λ b. rw b (none_held k)) (λ n. rw n))
calls_by (e ∷ h) f =
    let s = sane_by h f.1 in
    call e (calls_by h f.1) (sound (words_by (e ∷ h)) (sane_event (words_by h) s e f.0)) (event-after (words_by h) s.long e f.0)
