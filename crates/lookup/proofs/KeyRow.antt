-- The row of a key, and the key's map by it. Assumes nothing.
use Prim.Native.Nat.{ℕ, ◌+◌, ◌-◌, ◌*◌, ◌/◌, ◌%◌, ◌^◌, ◌<◌}
use mathlib.Core.Path.{◌≡◌, refl, sym, ap, ◌∙◌}
use mathlib.Core.Bool.{true, cond}
use mathlib.Core.List.{List, []}
use lib.Dec.{eqb}
use lib.ListN.{length, take, drop}
use native.Mathlib.Decide.{dec_lt}
use native.Mathlib.Omega.{arith}
use borrow.Author.Tests.{lt-ltb, le-ltb}
use Rattle.message.specs.declared.Key.{Key}
use Rattle.words.proofs.Rows.{part_is-row}
use Rattle.words.proofs.Tests.{test}
use Rattle.maps.specs.Maps.{Nothing}
use Rattle.history.specs.History.{most_keys, is_edition}
use Rattle.lookup.specs.Layout.{table_words, slot_of, row_of}
use Rattle.keyrow.specs.Row.{row_words, key_number, form_word}
use Rattle.lookup.specs.View.{map_in, row_for, edition_in}
use Rattle.keyrow.specs.View.{form_edition, row_map}
use Rattle.lookup.proofs.Words.{row-length}
use Rattle.std.specs.Prelude.{Option as Known, Some, None, MatchOption, IfSome, ◌≢◌}
use Rattle.std.specs.Array.{IsWholeChunk}

-- a row's words as an array: the whole row, where it has its 67 words
pub in_whole : {R : Type 0} (now : R → List ℕ) (r : Known R) (words row : List ℕ) → length words ≡ row_words → words ≡ row
    → MatchOption r (length words ≢ row_words) (λ y. IsWholeChunk words (now y) row_words) → MatchOption r ([] ≡ row) (λ y. now y ≡ row)
in_whole now None words row long e h = absurd (h long)
in_whole now (Some y) words row long e h = h.same ∙ e

-- and has its length
pub whole_long : {R : Type 0} (now : R → List ℕ) (r : Known R) (words : List ℕ) → length words ≡ row_words
    → MatchOption r (length words ≢ row_words) (λ y. IsWholeChunk words (now y) row_words) → IfSome r (λ y. length (now y) ≡ row_words)
whole_long now None words long h = tt
whole_long now (Some y) words long h = ap length h.same ∙ long

-- the edition is one of the two
pub two_editions : (t : List ℕ) (k : Key) → (is_edition (edition_in t k) ≡ true) × (cond (eqb (edition_in t k) 2004) 2004 2010 ≡ edition_in t k)
unfolding edition_in
two_editions t k = test (eqb (form_word (row_for t k) / 2 ^ 10 % 2) 1) (λ y. rw y (refl, refl)) (λ n. rw n (refl, refl))

-- the edition by the row
module _ (t : List ℕ) (k : Key) (row : List ℕ) (its : row ≡ row_for t k) where
  pub its_edition : form_edition (form_word row) ≡ edition_in t k
  unfolding edition_in
  its_edition = ap (λ (r : List ℕ). form_edition (form_word r)) its

-- a key without a row has that of 2010
pub no_edition : (t : List ℕ) (k : Key) → [] ≡ row_for t k → 2010 ≡ edition_in t k
no_edition t k none = its_edition t k [] none

module _ (t : List ℕ) (k : Key) where
  pub row_none : most_keys ≡ slot_of t (key_number k) → [] ≡ row_for t k
  unfolding row_for
  row_none e = rw (← e) refl

  pub row_some : (i : ℕ) → i ≡ slot_of t (key_number k) → i < most_keys → take (i * row_words + row_words - i * row_words) (drop (i * row_words) t) ≡ row_for t k
  unfolding row_for
  row_some i e l = rw (← e, lt-ltb i most_keys l) (part_is-row row_words t i)

  -- a key without a row has no map
  pub no_map : length t ≡ table_words → [] ≡ row_for t k → map_in t k ≡ Nothing
  unfolding row_for map_in
  no_map long none =
      elim (dec_lt (slot_of t (key_number k)) most_keys) [
        | yes l ↦ let z : 0 ≡ length (row_of t (slot_of t (key_number k))) = ap length (rw (lt-ltb (slot_of t (key_number k)) most_keys l) at none) in
            absurd (omega (arith, z, row-length t long (slot_of t (key_number k)) l))
        | no l ↦ rw (le-ltb (slot_of t (key_number k)) most_keys (omega arith))
      ]

  -- a key with a row has that row's map
  pub its_map : (row : List ℕ) → length row ≡ row_words → row ≡ row_for t k → map_in t k ≡ row_map row
  unfolding row_for map_in
  its_map row long its =
      elim (dec_lt (slot_of t (key_number k)) most_keys) [
        | yes l ↦ rw (lt-ltb (slot_of t (key_number k)) most_keys l) (sym (ap row_map (rw (lt-ltb (slot_of t (key_number k)) most_keys l) at its)))
        | no l ↦ let z : row ≡ [] = rw (le-ltb (slot_of t (key_number k)) most_keys (omega arith)) at its in absurd (omega (arith, ap length z, long))
      ]
