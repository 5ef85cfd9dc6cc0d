-- What learning makes of the map and the edition of each key: on any words of a table's length, also on those that no run produces.
-- Assumes nothing.
use Prim.Native.Nat.{ℕ, ◌≤◌, ◌<◌}
use native.Mathlib.Omega.{arith}
use native.Mathlib.Decide.{dec_lt}
use mathlib.Core.Path.{◌≡◌, sym, ap, ◌∙◌}
use mathlib.Core.Bool.{cond}
use mathlib.Core.Option.{some}
use mathlib.Core.List.{List}
use borrow.Author.Tests.{lt-ltb, le-ltb}
use lib.ListN.{length}
use Rattle.words.specs.Slots.{Put, view}
use Rattle.words.proofs.Rows.{length-put_at}
use Rattle.words.proofs.Slots.{view-other, view_own}
use Rattle.message.specs.declared.Key.{Key}
use Rattle.message.specs.declared.Message.{Message}
use Rattle.maps.specs.Maps.{learned, is_conflict}
use Rattle.history.specs.History.{most_keys}
use Rattle.answers.specs.Answers.{outcome, plain}
use Rattle.table.specs.Layout.{put_row}
use Rattle.lookup.specs.Layout.{table_words, row_of, slot_of, free_slot}
use Rattle.keyrow.specs.Row.{row_words, key_number, row_is, InRow}
use Rattle.lookup.specs.View.{map_in, edition_in}
use Rattle.table.specs.Learn.{learn_message}
use Rattle.keyrow.specs.Learn.{learn_row, new_row}
use Rattle.keyrow.specs.View.{form_edition}
use Rattle.table.proofs.Words.{put}
use Rattle.lookup.proofs.Words.{row-length}
use Rattle.lookup.proofs.Slots.{is_at, under, free-at}
use Rattle.learned.proofs.RowSteps.{learn_row-key, learn_row_form, learn_row-length, learn_row-is, form_fresh, new_row-key, new_row_form, new_row-length, new_row-is}
use Rattle.keyrow.proofs.RowKeys.{is_held, other_key, free-is}
use Rattle.learned.proofs.RowMaps.{learn_row-map, learn_row-answer, new_row-map}
use Rattle.learned.proofs.View.{map_at, map_none, edition-at, edition_none, held_map, held_edition, map-view, edition-view}

module _ (t : List ℕ) (long : length t ≡ table_words) (m : Message) where
  abbrev a : ℕ
  a = key_number m.key

  abbrev s : ℕ
  s = slot_of t a

  -- the row after the message, where the key has one
  abbrev next : List ℕ
  next = (learn_row (row_of t s) m).memory

  next-length : s < most_keys → length next ≡ row_words
  next-length h = learn_row-length (row_of t s) m ∙ row-length t long s h

  pub into_row : s < most_keys → learn_message t m ≡ outcome (learn_row (row_of t s) m).answer (put_row t s next)
  unfolding learn_message
  into_row h = rw (lt-ltb s most_keys h)

  pub into_free : most_keys ≤ s → free_slot t < most_keys → learn_message t m ≡ outcome (plain 0) (put_row t (free_slot t) (new_row m))
  unfolding learn_message
  into_free h f = rw (le-ltb s most_keys h, lt-ltb (free_slot t) most_keys f)

  pub no_room_lem : most_keys ≤ s → most_keys ≤ free_slot t → learn_message t m ≡ outcome (plain 9) t
  unfolding learn_message
  no_room_lem h f = rw (le-ltb s most_keys h, le-ltb (free_slot t) most_keys f)

  put_next : (h : s < most_keys) → Put most_keys (row_of t) (row_of (put_row t s next)) s next
  put_next h = put t long s h next (next-length h)

  put-new : (f : free_slot t < most_keys) → Put most_keys (row_of t) (row_of (put_row t (free_slot t) (new_row m))) (free_slot t) (new_row m)
  put-new f = put t long (free_slot t) f (new_row m) (new_row-length m)

  pub learn_length : length (learn_message t m).memory ≡ table_words
  learn_length = go (dec_lt s most_keys) (dec_lt (free_slot t) most_keys)
    where
      go : Dec (s < most_keys) → Dec (free_slot t < most_keys) → length (learn_message t m).memory ≡ table_words
      go (yes h) f = rw (into_row h) (length-put_at row_words t s (omega (arith, long)) next (next-length h) ∙ long)
      go (no h) (yes f) = rw (into_free (omega arith) f) (length-put_at row_words t (free_slot t) (omega (arith, long)) (new_row m) (new_row-length m) ∙ long)
      go (no h) (no f) = rw (no_room_lem (omega arith) (omega arith)) long

  -- ---- what is held of each key afterwards, as a row

  -- the key of the message: its row with the message, or a new one
  view-row : (h : s < most_keys) → view row_is most_keys (row_of (put_row t s next)) a ≡ some next
  view-row h = view_own row_is most_keys (row_of t) _ s next (put_next h) a (under t a) (learn_row-is (row_of t s) m a (omega (arith, row-length t long s h)) (is_at t a h))

  view-new : most_keys ≤ s → (f : free_slot t < most_keys) → view row_is most_keys (row_of (put_row t (free_slot t) (new_row m))) a ≡ some (new_row m)
  view-new h f = view_own row_is most_keys (row_of t) _ (free_slot t) (new_row m) (put-new f) a (λ k l. under t a k (omega arith)) (new_row-is m)

  -- another key: what was held
  view_others : (b : ℕ) → (a ≡ b → ⊥) → view row_is most_keys (row_of (learn_message t m).memory) b ≡ view row_is most_keys (row_of t) b
  view_others b ne = go (dec_lt s most_keys) (dec_lt (free_slot t) most_keys)
    where
      go : Dec (s < most_keys) → Dec (free_slot t < most_keys) → view row_is most_keys (row_of (learn_message t m).memory) b ≡ view row_is most_keys (row_of t) b
      go (yes h) f =
          rw (into_row h)
          (view-other row_is most_keys (row_of t) _ s next (put_next h) b
          (other_key (row_of t s) b (λ e. ne (sym (is_held (row_of t s) a (is_at t a h)).1 ∙ e)))
          (other_key next b (λ e. ne (sym (learn_row-key (row_of t s) m ∙ (is_held (row_of t s) a (is_at t a h)).1) ∙ e))))
      go (no h) (yes f) =
          rw (into_free (omega arith) f)
          (view-other row_is most_keys (row_of t) _ (free_slot t) (new_row m) (put-new f) b
          (free-is (row_of t (free_slot t)) b (free-at t f))
          (other_key (new_row m) b (λ e. ne (sym (new_row-key m) ∙ e))))
      go (no h) (no f) = rw (no_room_lem (omega arith) (omega arith))

  -- ---- its map, and its edition

  -- the key of the message
  module _ (fit : InRow m) where
    pub learn_row_lem : s < most_keys → map_in (learn_message t m).memory m.key ≡ learned (map_in t m.key) m
    learn_row_lem h =
        rw (into_row h, map_at t m.key h)
        (map-view (put_row t s next) m.key ∙ ap held_map (view-row h) ∙ learn_row-map m fit (row_of t s) (row-length t long s h))

    pub learn_new : most_keys ≤ s → free_slot t < most_keys → map_in (learn_message t m).memory m.key ≡ learned (map_in t m.key) m
    learn_new h f =
        rw (into_free h f, map_none t m.key h)
        (map-view (put_row t (free_slot t) (new_row m)) m.key ∙ ap held_map (view-new h f) ∙ new_row-map m fit)

    -- a message never changes the edition
    own_edition : edition_in (learn_message t m).memory m.key ≡ edition_in t m.key
    own_edition = go (dec_lt s most_keys) (dec_lt (free_slot t) most_keys)
      where
        go : Dec (s < most_keys) → Dec (free_slot t < most_keys) → edition_in (learn_message t m).memory m.key ≡ edition_in t m.key
        go (yes h) f =
            rw (into_row h, edition-at t m.key h)
            (edition-view (put_row t s next) m.key ∙ ap held_edition (view-row h) ∙ ap form_edition (learn_row_form (row_of t s) m fit.first))
        go (no h) (yes f) =
            rw (into_free (omega arith) f, edition_none t m.key (omega arith))
            (edition-view (put_row t (free_slot t) (new_row m)) m.key ∙ ap held_edition (view-new (omega arith) f)
            ∙ ap form_edition (new_row_form m fit.first) ∙ form_fresh m.head fit.n)
        go (no h) (no f) = rw (no_room_lem (omega arith) (omega arith))

    pub row-answer : s < most_keys → (learn_message t m).answer ≡ plain (cond (is_conflict (learned (map_in t m.key) m)) 10 0)
    row-answer h = rw (into_row h, map_at t m.key h) (learn_row-answer m fit (row_of t s) (row-length t long s h))

  -- another key
  pub learn_other : (k : Key) → (a ≡ key_number k → ⊥) → map_in (learn_message t m).memory k ≡ map_in t k
  learn_other k ne = map-view (learn_message t m).memory k ∙ ap held_map (view_others (key_number k) ne) ∙ sym (map-view t k)

  -- of any key the edition stays
  pub learn_edition : InRow m → (k : Key) → Dec (a ≡ key_number k) → (a ≡ key_number k → m.key ≡ k) → edition_in (learn_message t m).memory k ≡ edition_in t k
  learn_edition fit k (yes e) same = rw (sym (same e)) (own_edition fit)
  learn_edition fit k (no ne) same = edition-view (learn_message t m).memory k ∙ ap held_edition (view_others (key_number k) ne) ∙ sym (edition-view t k)
