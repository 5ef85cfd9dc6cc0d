-- What holds of the words of every run: no key is held twice, and every key is a key's number. Learning, forgetting and another edition keep it. Assumes nothing.
use Prim.Native.Nat.{ℕ, ◌*◌, ◌<◌}
use native.Mathlib.Omega.{arith}
use native.Mathlib.Decide.{dec_lt, ℕ_discrete}
use mathlib.Core.Path.{◌≡◌, refl, sym, ap, ◌∙◌}
use mathlib.Core.Bool.{true}
use mathlib.Core.List.{List}
use lib.ListN.{length, set, length-replicate}
use lib.Seq.{get_or-set_same}
use Rattle.words.specs.Slots.{Distinct}
use Rattle.words.proofs.Slots.{put_distinct, not_else}
use Rattle.words.proofs.Rows.{length-put_at, zeros}
use Rattle.message.specs.declared.Message.{Message}
use Rattle.words.proofs.Tests.{test, never}
use Rattle.history.specs.History.{most_keys, is_edition}
use Rattle.table.specs.Layout.{put_row}
use Rattle.lookup.specs.Layout.{table_words, row_of, slot_of, free_slot}
use Rattle.keyrow.specs.Row.{row_words, key_number, key_numbers, state_word, key_word, row_is, InBytes}
use Rattle.table.specs.Learn.{empty_table, learn_message}
use Rattle.keyrow.specs.Learn.{learn_row, new_row}
use Rattle.keyrow.specs.View.{edited_row}
use Rattle.keyrow.proofs.Edition.{edited-length, edited-state, edited-key, edited-is}
use Rattle.table.specs.Forget.{free_to, forgotten}
use Rattle.table.proofs.Words.{put}
use Rattle.edition.specs.Edition.{edited}
use Rattle.edition.proofs.Edited.{no_edition, not-held as unheld, into_row as edit-row}
use Rattle.lookup.proofs.Words.{row-length, row-state}
use Rattle.learned.proofs.RowSteps.{learn_row-key, learn_row-length, new_row-key, new_row-length}
use Rattle.keyrow.proofs.RowKeys.{is_held, held-is, free-is}
use Rattle.learned.proofs.Learning.{into_row, into_free, no_room_lem}
use Rattle.lookup.proofs.Slots.{is_at, under}
use Rattle.learned.proofs.Forgetting.{row_without, freed_words, freed_row, held_before, not-held}
use Rattle.learned.proofs.KeyNumbers.{below_all}

pub record Sane (t : List ℕ) : Type 0 where
  pub long : length t ≡ table_words
  pub apart : Distinct row_is most_keys (row_of t)
  pub small : (i : ℕ) → i < most_keys → (state_word (row_of t i) ≡ 0 → ⊥) → key_word (row_of t i) < key_numbers

-- ---- the empty table

empty_length : length empty_table ≡ table_words
unfolding empty_table
empty_length = length-replicate {A = ℕ} table_words 0

pub all_empty : (i : ℕ) → i < most_keys → state_word (row_of empty_table i) ≡ 0
unfolding empty_table
all_empty i h = row-state empty_table empty_length i h ∙ zeros table_words (i * row_words)

pub sane_empty : Sane empty_table
unfolding Distinct
sane_empty = record {
  long = empty_length;
  apart = λ a j k jl kl x y. never x (free-is (row_of empty_table j) a (all_empty j jl));
  small = λ i h u. absurd (u (all_empty i h));
}

-- ---- one row put

module _ (t : List ℕ) (s : Sane t) (i : ℕ) (h : i < most_keys) (r : List ℕ) (rl : length r ≡ row_words) where
  sane_put : ((a k : ℕ) → k < most_keys → (k ≡ i → ⊥) → row_is r a ≡ true → row_is (row_of t k) a ≡ true → ⊥) → ((state_word r ≡ 0 → ⊥) → key_word r < key_numbers) → Sane (put_row t i r)
  sane_put only low = record {
    long = length-put_at row_words t i (omega (arith, s.long)) r rl ∙ s.long;
    apart = put_distinct row_is most_keys (row_of t) (row_of (put_row t i r)) i r (put t s.long i h r rl) s.apart only;
    small = λ j l. at j l (ℕ_discrete j i);
  }
    where
      at : (j : ℕ) → j < most_keys → Dec (j ≡ i) → (state_word (row_of (put_row t i r) j) ≡ 0 → ⊥) → key_word (row_of (put_row t i r) j) < key_numbers
      at j l (yes e) u =
          let q : row_of (put_row t i r) j ≡ r = ap (row_of (put_row t i r)) e ∙ (put t s.long i h r rl).at in
          rw q (low (rw q at u))
      at j l (no ne) u =
          let q : row_of (put_row t i r) j ≡ row_of t j = (put t s.long i h r rl).off j l ne in
          rw q (s.small j l (rw q at u))

-- ---- learning and forgetting

pub sane_learn : (t : List ℕ) → Sane t → (m : Message) → InBytes m.key → Sane (learn_message t m).memory
sane_learn t s m b = go (dec_lt i most_keys) (dec_lt (free_slot t) most_keys)
  where
    a : ℕ
    a = key_number m.key

    i : ℕ
    i = slot_of t (key_number m.key)

    next : List ℕ
    next = (learn_row (row_of t (slot_of t (key_number m.key))) m).memory

    go : Dec (i < most_keys) → Dec (free_slot t < most_keys) → Sane (learn_message t m).memory
    go (yes h) f =
        let own : key_word (row_of t i) ≡ a = (is_held (row_of t i) a (is_at t a h)).1 in
        let key : key_word next ≡ a = learn_row-key (row_of t i) m ∙ own in
        rw (into_row t s.long m h)
        (sane_put t s i h next (learn_row-length (row_of t i) m ∙ row-length t s.long i h)
        (λ c k l ne x y. never y (rw (sym (is_held next c x).1 ∙ key) (not_else row_is most_keys (row_of t) s.apart a i h (is_at t a h) k l ne)))
        (λ u. omega (arith, key, below_all m.key b)))
    go (no h) (yes f) =
        rw (into_free t s.long m (omega arith) f)
        (sane_put t s (free_slot t) f (new_row m) (new_row-length m)
        (λ c k l ne x y. never y (rw (sym (is_held (new_row m) c x).1 ∙ new_row-key m) (under t a k (omega arith))))
        (λ u. omega (arith, new_row-key m, below_all m.key b)))
    go (no h) (no f) = rw (no_room_lem t s.long m (omega arith) (omega arith)) s

-- another edition: the row has the key that it had
pub sane_edit : (t : List ℕ) → Sane t → (key e : ℕ) → Sane (edited t key e).memory
sane_edit t s key e = go (dec_lt i most_keys)
  where
    i : ℕ
    i = slot_of t key

    next : List ℕ
    next = edited_row (row_of t (slot_of t key)) e

    go : Dec (i < most_keys) → Sane (edited t key e).memory
    go (no h) = rw (unheld t key e (omega arith)) s
    go (yes h) =
        test (is_edition e)
        (λ y. rw (edit-row t key e h y)
        (sane_put t s i h next (edited-length (row_of t i) e ∙ row-length t s.long i h)
        (λ c k l ne x z. never z (not_else row_is most_keys (row_of t) s.apart c i h (sym (edited-is (row_of t i) e c) ∙ x) k l ne))
        (λ u. rw (edited-key (row_of t i) e) (s.small i h (rw (edited-state (row_of t i) e) at u)))))
        (λ n. rw (no_edition t key e h n) s)

-- of a row from which a key was taken, what it still holds it held before
still : (r : List ℕ) → length r ≡ row_words → (key a : ℕ) → row_is (row_without r key) a ≡ true → row_is r a ≡ true
still r rl key a x = test (row_is r key) (λ e. never (rw e at x) (free-is (set r 0 0) a (get_or-set_same r 0 0 0 (omega arith)))) (λ n. rw n at x)

pub sane_free : (t : List ℕ) → Sane t → (key : ℕ) → Sane (free_to t key most_keys)
unfolding Distinct
sane_free t s key = record {
  long = freed_words key t s.long most_keys (omega arith);
  apart = λ a j k jl kl x y. s.apart a j k jl kl (back j jl a x) (back k kl a y);
  small = λ i h u.
      let (v, w) = is_held (row_of t i) (key_word (row_of (free_to t key most_keys) i)) (back i h _ (held-is (row_of (free_to t key most_keys) i) _ u refl)) in
      rw (sym w) (s.small i h v);
}
  where
    back : (i : ℕ) → i < most_keys → (a : ℕ) → row_is (row_of (free_to t key most_keys) i) a ≡ true → row_is (row_of t i) a ≡ true
    back i h a x = still (row_of t i) (row-length t s.long i h) key a (rw (freed_row key t s.long i h) at x)

pub sane_forget : (t : List ℕ) → Sane t → (key : ℕ) → Sane (forgotten t key).memory
sane_forget t s key = go (dec_lt (slot_of t key) most_keys)
  where
    go : Dec (slot_of t key < most_keys) → Sane (forgotten t key).memory
    go (yes h) = rw (held_before t key h) (sane_free t s key)
    go (no h) = rw (not-held t key (omega arith)) s
