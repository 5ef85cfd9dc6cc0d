-- One event on any words of a table's length: they hold afterwards, of every key, what the history's `after` says, and the answer is its `number`.
-- Assumes nothing.
use Prim.Native.Nat.{ℕ, ◌≤◌, ◌<◌}
use native.Mathlib.Omega.{arith}
use native.Mathlib.Decide.{dec_lt}
use mathlib.Core.Path.{◌≡◌, sym, ap, ◌∙◌}
use mathlib.Core.Bool.{true, false, cond, not, and-false}
use mathlib.Core.List.{List}
use lib.ListN.{length}
use Rattle.message.specs.declared.Key.{Key}
use Rattle.message.specs.declared.Message.{Message}
use Rattle.maps.specs.Maps.{same_key, learned, is_nothing}
use Rattle.words.proofs.Tests.{test, never}
use Rattle.maps.proofs.Tests.{key_eq, key-refl}
use Rattle.answers.specs.Answers.{plain}
use Rattle.history.specs.History.{most_keys, Event, Learn, Forget, Edition, names, is_edition}
use Rattle.history.specs.Table.{full, number, after}
use Rattle.history.proofs.Demand.{nine_if_full, never_nine, edition_nine, isolated}
use Rattle.lookup.specs.Layout.{table_words, row_of, slot_of, free_slot}
use Rattle.keyrow.specs.Row.{key_number, InBytes, InRow}
use Rattle.lookup.specs.View.{map_in}
use Rattle.table.specs.Learn.{learn_message}
use Rattle.table.specs.Forget.{forgotten}
use Rattle.edition.specs.Edition.{edited}
use Rattle.edition.proofs.Edited.{no_edition, not-held as unheld, into_row}
use Rattle.learned.specs.Events.{event, InWords}
use Rattle.learned.proofs.View.{map_at, map_none}
use Rattle.keyrow.proofs.View.{row_something}
use Rattle.learned.proofs.Learning.{into_free, no_room_lem, learn_length, learn_row_lem, learn_new, row-answer, learn_other}
use Rattle.learned.proofs.Forgetting.{held_before, not-held, forget_length, forget_own, forget_other}
use Rattle.learned.proofs.Editing.{edit_length, edit_map}
use Rattle.learned.proofs.KeyNumbers.{same_number, in_bytes, bytes_yes, yes_bytes}
use Rattle.learned.proofs.Sane.{Sane, sane_learn, sane_forget, sane_edit}
use Rattle.learned.proofs.Count.{all_used, some_free, table_of}

pub sane_event : (t : List ℕ) → Sane t → (e : Event) → InWords e → Sane (event t e).memory
sane_event t s (Learn m) f = sane_learn t s m f.key
sane_event t s (Forget k) f = sane_forget t s (key_number k)
sane_event t s (Edition k e) f = sane_edit t s (key_number k) e

pub event-length : (t : List ℕ) → length t ≡ table_words → (e : Event) → length (event t e).memory ≡ table_words
event-length t long (Learn m) = learn_length t long m
event-length t long (Forget k) = forget_length t long (key_number k)
event-length t long (Edition k e) = edit_length t long (key_number k) e

-- ---- what the table has of a key that a call can name

pub looks : (t : List ℕ) (k : Key) → InBytes k → (table_of t).look k ≡ map_in t k
looks t k b = rw (yes_bytes k b)

-- another key has another number
pub other : (j k : Key) → InBytes j → InBytes k → same_key j k ≡ false → key_number j ≡ key_number k → ⊥
other j k p q n e = never (ap (same_key j) (sym (same_number j k p q e)) ∙ key-refl j) n

-- ---- room

module _ (t : List ℕ) (k : Key) (b : InBytes k) where
  held-not-full : slot_of t (key_number k) < most_keys → full (table_of t) k ≡ false
  unfolding full
  held-not-full h = rw (yes_bytes k b, map_at t k h, row_something (row_of t (slot_of t (key_number k))))

  free-not-full : free_slot t < most_keys → full (table_of t) k ≡ false
  unfolding full
  free-not-full h = rw (some_free t h, and-false (is_nothing ((table_of t).look k)))

  new_and_full : most_keys ≤ slot_of t (key_number k) → most_keys ≤ free_slot t → full (table_of t) k ≡ true
  unfolding full
  new_and_full h f = rw (yes_bytes k b, map_none t k h, all_used t f)

-- ---- learning

module _ (t : List ℕ) (long : length t ≡ table_words) (m : Message) (b : InBytes m.key) (fit : InRow m) where
  learn_own : map_in (learn_message t m).memory m.key ≡ cond (full (table_of t) m.key) (map_in t m.key) (learned (map_in t m.key) m)
  learn_own = go (dec_lt (slot_of t (key_number m.key)) most_keys) (dec_lt (free_slot t) most_keys)
    where
      go : Dec (slot_of t (key_number m.key) < most_keys) → Dec (free_slot t < most_keys)
          → map_in (learn_message t m).memory m.key ≡ cond (full (table_of t) m.key) (map_in t m.key) (learned (map_in t m.key) m)
      go (yes h) f = rw (held-not-full t m.key b h) (learn_row_lem t long m fit h)
      go (no h) (yes f) = rw (free-not-full t m.key b f) (learn_new t long m fit (omega arith) f)
      go (no h) (no f) = rw (new_and_full t m.key b (omega arith) (omega arith), no_room_lem t long m (omega arith) (omega arith))

  learn_after : (k : Key) → (table_of (learn_message t m).memory).look k ≡ after (table_of t) (Learn m) k
  learn_after k =
      rw (nine_if_full (table_of t) m)
      (test (same_key m.key k)
      (λ e. rw (e, ← (key_eq m.key k e), yes_bytes m.key b) (learn_own ∙ test (full (table_of t) m.key) (λ f. rw f) (λ f. rw f)))
      (λ n. rw (n, and-false (not (full (table_of t) m.key)))
      (test (in_bytes k) (λ c. rw c (learn_other t long m k (other m.key k b (bytes_yes k c) n))) (λ c. rw c))))

  learn_answer : (learn_message t m).answer ≡ plain (number (table_of t) (Learn m))
  learn_answer = go (dec_lt (slot_of t (key_number m.key)) most_keys) (dec_lt (free_slot t) most_keys)
    where
      go : Dec (slot_of t (key_number m.key) < most_keys) → Dec (free_slot t < most_keys) → (learn_message t m).answer ≡ plain (number (table_of t) (Learn m))
      go (yes h) f = rw (held-not-full t m.key b h, yes_bytes m.key b) (row-answer t long m fit h)
      go (no h) (yes f) =
          rw (free-not-full t m.key b f, yes_bytes m.key b, into_free t long m (omega arith) f, map_none t m.key (omega arith))
      go (no h) (no f) = rw (new_and_full t m.key b (omega arith) (omega arith), no_room_lem t long m (omega arith) (omega arith))

-- ---- forgetting

module _ (t : List ℕ) (long : length t ≡ table_words) (k : Key) (b : InBytes k) where
  forget_after : (j : Key) → (table_of (forgotten t (key_number k)).memory).look j ≡ after (table_of t) (Forget k) j
  forget_after j =
      rw (never_nine (table_of t) k)
      (test (same_key k j)
      (λ e. rw (e, ← (key_eq k j e), yes_bytes k b) (forget_own t long k))
      (λ n. rw n (test (in_bytes j) (λ c. rw c (forget_other t long (key_number k) j (other k j b (bytes_yes j c) n))) (λ c. rw c))))

  forget_answer : (forgotten t (key_number k)).answer ≡ plain (number (table_of t) (Forget k))
  forget_answer = go (dec_lt (slot_of t (key_number k)) most_keys)
    where
      go : Dec (slot_of t (key_number k) < most_keys) → (forgotten t (key_number k)).answer ≡ plain (number (table_of t) (Forget k))
      go (yes h) = rw (held_before t (key_number k) h, yes_bytes k b, map_at t k h, row_something (row_of t (slot_of t (key_number k))))
      go (no h) = rw (not-held t (key_number k) (omega arith), yes_bytes k b, map_none t k (omega arith))

-- ---- another edition

module _ (t : List ℕ) (long : length t ≡ table_words) (k : Key) (b : InBytes k) (e : ℕ) where
  edit_after : (j : Key) → (table_of (edited t (key_number k) e).memory).look j ≡ after (table_of t) (Edition k e) j
  edit_after j = rw (edition_nine (table_of t) k e, edit_map t long (key_number k) e j) (test (same_key k j) (λ y. rw y) (λ n. rw n))

  edit_answer : (edited t (key_number k) e).answer ≡ plain (number (table_of t) (Edition k e))
  edit_answer = go (dec_lt (slot_of t (key_number k)) most_keys)
    where
      go : Dec (slot_of t (key_number k) < most_keys) → (edited t (key_number k) e).answer ≡ plain (number (table_of t) (Edition k e))
      go (yes h) =
          rw (yes_bytes k b, map_at t k h, row_something (row_of t (slot_of t (key_number k))))
          (test (is_edition e) (λ y. rw (into_row t (key_number k) e h y, y)) (λ n. rw (no_edition t (key_number k) e h n, n)))
      go (no h) = rw (unheld t (key_number k) e (omega arith), yes_bytes k b, map_none t k (omega arith))

-- ---- any event

pub event-after : (t : List ℕ) → length t ≡ table_words → (e : Event) → InWords e → (k : Key) → (table_of (event t e).memory).look k ≡ after (table_of t) e k
event-after t long (Learn m) f = learn_after t long m f.key f.row
event-after t long (Forget k) f = forget_after t long k f.key
event-after t long (Edition k e) f = edit_after t long k f.key e

pub event-answer : (t : List ℕ) → length t ≡ table_words → (e : Event) → InWords e → (event t e).answer ≡ plain (number (table_of t) e)
event-answer t long (Learn m) f = learn_answer t long m f.key f.row
event-answer t long (Forget k) f = forget_answer t long k f.key
event-answer t long (Edition k e) f = edit_answer t long k f.key e

-- and of a key that the event does not name, what was held
pub event-other : (t : List ℕ) → length t ≡ table_words → (e : Event) → InWords e → (k : Key) → InBytes k → names k e ≡ false → map_in (event t e).memory k ≡ map_in t k
event-other t long e f k b n =
    sym (looks (event t e).memory k b) ∙ event-after t long e f k ∙ isolated (table_of t) e k n ∙ looks t k b
