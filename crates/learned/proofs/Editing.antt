-- What another edition makes of each key: of its own key the edition and nothing else, of any other key nothing. On any words of a table's length, also on those that no
-- run produces. Assumes nothing.
use Prim.Native.Nat.{ℕ, ◌<◌}
use native.Mathlib.Omega.{arith}
use native.Mathlib.Decide.{dec_lt, ℕ_discrete}
use mathlib.Core.Path.{◌≡◌, sym, ap, ◌∙◌}
use mathlib.Core.Bool.{true, cond}
use mathlib.Core.Option.{some}
use mathlib.Core.List.{List}
use borrow.Author.Tests.{eqb-true}
use lib.Dec.{eqb}
use lib.ListN.{length}
use Rattle.words.specs.Slots.{Put, view}
use Rattle.words.proofs.Rows.{length-put_at}
use Rattle.words.proofs.Slots.{view-other, view_own}
use Rattle.words.proofs.Tests.{test}
use Rattle.message.specs.declared.Key.{Key}
use Rattle.history.specs.History.{most_keys, is_edition}
use Rattle.keyrow.specs.Row.{row_words, key_number, row_is}
use Rattle.keyrow.specs.View.{edited_row}
use Rattle.keyrow.proofs.RowKeys.{is_held, other_key}
use Rattle.keyrow.proofs.Edition.{edited-length, edited-is, edited-edition, edited-map}
use Rattle.lookup.specs.Layout.{table_words, row_of, slot_of}
use Rattle.lookup.specs.View.{map_in, edition_in}
use Rattle.lookup.proofs.Words.{row-length}
use Rattle.lookup.proofs.Slots.{is_at, under}
use Rattle.table.specs.Layout.{put_row}
use Rattle.table.proofs.Words.{put}
use Rattle.edition.specs.Edition.{edited}
use Rattle.edition.proofs.Edited.{not-held, no_edition, into_row}
use Rattle.learned.proofs.View.{map_at, held_map, held_edition, map-view, edition-view}

module _ (t : List ℕ) (long : length t ≡ table_words) (key e : ℕ) where
  abbrev s : ℕ
  s = slot_of t key

  -- the key's row afterwards
  abbrev next : List ℕ
  next = edited_row (row_of t s) e

  next-length : s < most_keys → length next ≡ row_words
  next-length h = edited-length (row_of t s) e ∙ row-length t long s h

  put_next : (h : s < most_keys) → Put most_keys (row_of t) (row_of (put_row t s next)) s next
  put_next h = put t long s h next (next-length h)

  pub edit_length : length (edited t key e).memory ≡ table_words
  edit_length = go (dec_lt s most_keys)
    where
      go : Dec (s < most_keys) → length (edited t key e).memory ≡ table_words
      go (yes h) =
          test (is_edition e) (λ y. rw (into_row t key e h y) (length-put_at row_words t s (omega (arith, long)) next (next-length h) ∙ long)) (λ n. rw (no_edition t key e h n) long)
      go (no h) = rw (not-held t key e (omega arith)) long

  -- ---- what is held of each key afterwards, as a row

  view-key : (h : s < most_keys) → view row_is most_keys (row_of (put_row t s next)) key ≡ some next
  view-key h = view_own row_is most_keys (row_of t) _ s next (put_next h) key (under t key) (edited-is (row_of t s) e key ∙ is_at t key h)

  view_others : (b : ℕ) → (key ≡ b → ⊥) → view row_is most_keys (row_of (edited t key e).memory) b ≡ view row_is most_keys (row_of t) b
  view_others b ne = go (dec_lt s most_keys)
    where
      go : Dec (s < most_keys) → view row_is most_keys (row_of (edited t key e).memory) b ≡ view row_is most_keys (row_of t) b
      go (yes h) =
          let o = other_key (row_of t s) b (λ q. ne (sym (is_held (row_of t s) key (is_at t key h)).1 ∙ q)) in
          test (is_edition e)
          (λ y. rw (into_row t key e h y) (view-other row_is most_keys (row_of t) _ s next (put_next h) b o (edited-is (row_of t s) e b ∙ o)))
          (λ n. rw (no_edition t key e h n))
      go (no h) = rw (not-held t key e (omega arith))

  -- another key has the edition that it had
  pub edit_other : (k : Key) → (key ≡ key_number k → ⊥) → edition_in (edited t key e).memory k ≡ edition_in t k
  edit_other k ne = edition-view (edited t key e).memory k ∙ ap held_edition (view_others (key_number k) ne) ∙ sym (edition-view t k)

  map_other : (k : Key) → (key ≡ key_number k → ⊥) → map_in (edited t key e).memory k ≡ map_in t k
  map_other k ne = map-view (edited t key e).memory k ∙ ap held_map (view_others (key_number k) ne) ∙ sym (map-view t k)

-- one of the two is 2004, or it is 2010
two : (e : ℕ) → is_edition e ≡ true → cond (eqb e 2004) 2004 2010 ≡ e
two e y = test (eqb e 2004) (λ t. rw t (sym (eqb-true e 2004 t))) (λ n. rw n (sym (eqb-true e 2010 (rw n at y))))

module _ (t : List ℕ) (long : length t ≡ table_words) (k : Key) (e : ℕ) where
  -- the key has the edition, where it is held and the number is one
  pub edit_own : slot_of t (key_number k) < most_keys → is_edition e ≡ true → edition_in (edited t (key_number k) e).memory k ≡ e
  edit_own h y =
      let r = row_of t (slot_of t (key_number k)) in
      rw (into_row t (key_number k) e h y)
      (edition-view (put_row t (slot_of t (key_number k)) (edited_row r e)) k ∙ ap held_edition (view-key t long (key_number k) e h)
      ∙ edited-edition r e (omega (arith, row-length t long (slot_of t (key_number k)) h)) ∙ two e y)

  map_own : map_in (edited t (key_number k) e).memory k ≡ map_in t k
  map_own = go (dec_lt (slot_of t (key_number k)) most_keys)
    where
      r : List ℕ
      r = row_of t (slot_of t (key_number k))

      go : Dec (slot_of t (key_number k) < most_keys) → map_in (edited t (key_number k) e).memory k ≡ map_in t k
      go (yes h) =
          test (is_edition e)
          (λ y. rw (into_row t (key_number k) e h y, map_at t k h)
          (map-view (put_row t (slot_of t (key_number k)) (edited_row r e)) k ∙ ap held_map (view-key t long (key_number k) e h)
          ∙ edited-map r e (omega (arith, row-length t long (slot_of t (key_number k)) h))))
          (λ n. rw (no_edition t (key_number k) e h n))
      go (no h) = rw (not-held t (key_number k) e (omega arith))

-- "and nothing else of it": every key has its map as it was
pub edit_map : (t : List ℕ) → length t ≡ table_words → (key e : ℕ) (k : Key) → map_in (edited t key e).memory k ≡ map_in t k
edit_map t long key e k =
    elim (ℕ_discrete key (key_number k)) [
      | yes q ↦ rw q (map_own t long k e)
      | no ne ↦ map_other t long key e k ne
    ]
