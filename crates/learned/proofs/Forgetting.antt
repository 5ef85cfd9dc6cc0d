-- What forgetting makes of the map and the edition of each key: on any words of a table's length, also on those that no run produces. Assumes nothing.
use Prim.Native.Nat.{ℕ, zero, suc, ◌≤◌, ◌<◌}
use native.Mathlib.Omega.{arith}
use native.Mathlib.Decide.{dec_lt, ℕ_discrete}
use mathlib.Core.Path.{◌≡◌, refl, sym, ap, ◌∙◌}
use mathlib.Core.Bool.{false, cond}
use mathlib.Core.Option.{some}
use mathlib.Core.List.{List}
use borrow.Author.Tests.{lt-ltb, le-ltb}
use lib.ListN.{length, set}
use Rattle.words.specs.Slots.{view}
use Rattle.words.proofs.First.{first_none, first-same}
use Rattle.words.proofs.Rows.{length-put_at}
use Rattle.message.specs.declared.Key.{Key}
use Rattle.maps.specs.Maps.{Nothing}
use Rattle.words.proofs.Tests.{test}
use Rattle.history.specs.History.{most_keys}
use Rattle.answers.specs.Answers.{outcome, plain}
use Rattle.lookup.specs.Layout.{table_words, row_of, slot_of}
use Rattle.keyrow.specs.Row.{row_words, key_number, row_is}
use Rattle.lookup.specs.View.{map_in, edition_in}
use Rattle.table.specs.Forget.{free_row, free_to, forgotten}
use Rattle.table.proofs.Words.{put}
use Rattle.lookup.proofs.Words.{row-length}
use Rattle.learned.proofs.RowSteps.{freed_length, freed_is}
use Rattle.keyrow.proofs.RowKeys.{is_held, other_key}
use Rattle.learned.proofs.View.{map_none, edition_none, held_map, held_edition, map-view, edition-view}
use Rattle.lookup.proofs.Slots.{is_at}

-- row i once the key is forgotten
abbrev pub row_without : List ℕ → ℕ → List ℕ
row_without r key = cond (row_is r key) (set r 0 0) r

module _ (key : ℕ) where
  -- one row
  module _ (t : List ℕ) (long : length t ≡ table_words) (i : ℕ) (h : i < most_keys) where
    row_freed_length : length (free_row t key i) ≡ table_words
    row_freed_length =
        test (row_is (row_of t i) key)
        (λ e. rw e (length-put_at row_words t i (omega arith) (set (row_of t i) 0 0) (freed_length (row_of t i) (row-length t long i h)) ∙ long))
        (λ n. rw n long)

    row_freed_own : row_of (free_row t key i) i ≡ row_without (row_of t i) key
    row_freed_own =
        test (row_is (row_of t i) key)
        (λ e. rw e (put t long i h (set (row_of t i) 0 0) (freed_length (row_of t i) (row-length t long i h))).at)
        (λ n. rw n)

    row_freed_other : (j : ℕ) → j < most_keys → (j ≡ i → ⊥) → row_of (free_row t key i) j ≡ row_of t j
    row_freed_other j l ne =
        test (row_is (row_of t i) key)
        (λ e. rw e ((put t long i h (set (row_of t i) 0 0) (freed_length (row_of t i) (row-length t long i h))).off j l ne))
        (λ n. rw n)

  -- the first n rows
  module _ (t : List ℕ) (long : length t ≡ table_words) where
    pub freed_words : (n : ℕ) → n ≤ most_keys → length (free_to t key n) ≡ table_words
    unfolding free_to
    freed_words zero h = long
    freed_words (suc n) h = row_freed_length (free_to t key n) (freed_words n (omega arith)) n (omega arith)

    above : (n : ℕ) → n ≤ most_keys → (i : ℕ) → n ≤ i → i < most_keys → row_of (free_to t key n) i ≡ row_of t i
    unfolding free_to
    above zero h i l r = refl
    above (suc n) h i l r =
        row_freed_other (free_to t key n) (freed_words n (omega arith)) n (omega arith) i r (omega arith) ∙ above n (omega arith) i (omega arith) r

    below : (n : ℕ) → n ≤ most_keys → (i : ℕ) → i < n → row_of (free_to t key n) i ≡ row_without (row_of t i) key
    unfolding free_to
    below zero h i l = absurd (omega arith)
    below (suc n) h i l = go (ℕ_discrete i n) (below n (omega arith) i)
      where
        go : Dec (i ≡ n) → (i < n → row_of (free_to t key n) i ≡ row_without (row_of t i) key) → row_of (free_to t key (suc n)) i ≡ row_without (row_of t i) key
        go (yes e) ih =
            rw e
            (row_freed_own (free_to t key n) (freed_words n (omega arith)) n (omega arith)
            ∙ ap (λ (r : List ℕ). row_without r key) (above n (omega arith) n (omega arith) (omega arith)))
        go (no ne) ih =
            row_freed_other (free_to t key n) (freed_words n (omega arith)) n (omega arith) i (omega arith) ne ∙ ih (omega arith)

    -- every row
    pub freed_row : (i : ℕ) → i < most_keys → row_of (free_to t key most_keys) i ≡ row_without (row_of t i) key
    freed_row i h = below most_keys (omega arith) i h

    -- no row holds the key, and of another key each row holds what it held
    freed_own : (i : ℕ) → i < most_keys → row_is (row_of (free_to t key most_keys) i) key ≡ false
    freed_own i h =
        rw (freed_row i h)
        (test (row_is (row_of t i) key) (λ e. rw e (freed_is (row_of t i) (row-length t long i h) key)) (λ n. rw n n))

    freed_other : (b : ℕ) → (key ≡ b → ⊥) → (i : ℕ) → i < most_keys → row_is (row_of (free_to t key most_keys) i) b ≡ row_is (row_of t i) b
    freed_other b ne i h =
        rw (freed_row i h)
        (test (row_is (row_of t i) key)
        (λ e. rw e (freed_is (row_of t i) (row-length t long i h) b ∙ sym (other_key (row_of t i) b (λ q. ne (sym (is_held (row_of t i) key e).1 ∙ q)))))
        (λ n. rw n))

    pub freed_slot : (b : ℕ) → (key ≡ b → ⊥) → slot_of (free_to t key most_keys) b ≡ slot_of t b
    unfolding slot_of
    freed_slot b ne = first-same _ _ most_keys (freed_other b ne)

    pub gone : slot_of (free_to t key most_keys) key ≡ most_keys
    unfolding slot_of
    gone = first_none _ most_keys freed_own

    -- where another key's row is found, it is as it was
    pub found_row_lem : (b : ℕ) → (key ≡ b → ⊥) → slot_of t b < most_keys → row_of (free_to t key most_keys) (slot_of t b) ≡ row_of t (slot_of t b)
    found_row_lem b ne h =
        freed_row (slot_of t b) h
        ∙ rw (other_key (row_of t (slot_of t b)) key (λ q. ne (sym q ∙ (is_held (row_of t (slot_of t b)) b (is_at t b h)).1)))

-- ---- what the call does

module _ (t : List ℕ) (key : ℕ) where
  pub held_before : slot_of t key < most_keys → forgotten t key ≡ outcome (plain 0) (free_to t key most_keys)
  unfolding forgotten
  held_before h = rw (lt-ltb (slot_of t key) most_keys h)

  pub not-held : most_keys ≤ slot_of t key → forgotten t key ≡ outcome (plain 11) t
  unfolding forgotten
  not-held h = rw (le-ltb (slot_of t key) most_keys h)

pub forget_length : (t : List ℕ) → length t ≡ table_words → (key : ℕ) → length (forgotten t key).memory ≡ table_words
forget_length t long key = go (dec_lt (slot_of t key) most_keys)
  where
    go : Dec (slot_of t key < most_keys) → length (forgotten t key).memory ≡ table_words
    go (yes h) = rw (held_before t key h) (freed_words key t long most_keys (omega arith))
    go (no h) = rw (not-held t key (omega arith)) long

-- the key that is named is held no more
pub forget_own : (t : List ℕ) → length t ≡ table_words → (k : Key) → map_in (forgotten t (key_number k)).memory k ≡ Nothing
forget_own t long k = go (dec_lt (slot_of t (key_number k)) most_keys)
  where
    go : Dec (slot_of t (key_number k) < most_keys) → map_in (forgotten t (key_number k)).memory k ≡ Nothing
    go (yes h) = rw (held_before t (key_number k) h) (map_none (free_to t (key_number k) most_keys) k (omega (arith, gone (key_number k) t long)))
    go (no h) = rw (not-held t (key_number k) (omega arith)) (map_none t k (omega arith))

-- and has the edition that a fresh one has
pub forget_fresh : (t : List ℕ) → length t ≡ table_words → (k : Key) → edition_in (forgotten t (key_number k)).memory k ≡ 2010
forget_fresh t long k = go (dec_lt (slot_of t (key_number k)) most_keys)
  where
    go : Dec (slot_of t (key_number k) < most_keys) → edition_in (forgotten t (key_number k)).memory k ≡ 2010
    go (yes h) = rw (held_before t (key_number k) h) (edition_none (free_to t (key_number k) most_keys) k (omega (arith, gone (key_number k) t long)))
    go (no h) = rw (not-held t (key_number k) (omega arith)) (edition_none t k (omega arith))

-- another key is held as it was
view_others : (t : List ℕ) → length t ≡ table_words → (key b : ℕ) → (key ≡ b → ⊥) → view row_is most_keys (row_of (forgotten t key).memory) b ≡ view row_is most_keys (row_of t) b
unfolding view slot_of
view_others t long key b ne = go (dec_lt (slot_of t key) most_keys) (dec_lt (slot_of t b) most_keys)
  where
    same : slot_of (free_to t key most_keys) b ≡ slot_of t b
    same = freed_slot key t long b ne

    go : Dec (slot_of t key < most_keys) → Dec (slot_of t b < most_keys) → view row_is most_keys (row_of (forgotten t key).memory) b ≡ view row_is most_keys (row_of t) b
    go (yes h) (yes l) = rw (held_before t key h, same, lt-ltb (slot_of t b) most_keys l) (ap some (found_row_lem key t long b ne l))
    go (yes h) (no l) = rw (held_before t key h, same, le-ltb (slot_of t b) most_keys (omega arith))
    go (no h) l = rw (not-held t key (omega arith))

pub forget_other : (t : List ℕ) → length t ≡ table_words → (key : ℕ) (k : Key) → (key ≡ key_number k → ⊥) → map_in (forgotten t key).memory k ≡ map_in t k
forget_other t long key k ne = map-view (forgotten t key).memory k ∙ ap held_map (view_others t long key (key_number k) ne) ∙ sym (map-view t k)

pub forget_edition : (t : List ℕ) → length t ≡ table_words → (key : ℕ) (k : Key) → (key ≡ key_number k → ⊥) → edition_in (forgotten t key).memory k ≡ edition_in t k
forget_edition t long key k ne = edition-view (forgotten t key).memory k ∙ ap held_edition (view_others t long key (key_number k) ne) ∙ sym (edition-view t k)
