-- What the call does, by its tests; and the word that it stores. Assumes nothing.
use Prim.Native.Nat.{ℕ, ◌+◌, ◌*◌, ◌≤◌, ◌<◌}
use native.Mathlib.Omega.{arith}
use native.Mathlib.Decide.{dec_lt}
use mathlib.Core.Path.{◌≡◌, refl, sym, ap, ap₂, ◌∙◌}
use mathlib.Core.Logic.{◌⊎◌, inl, inr}
use mathlib.Core.Bool.{true, false}
use mathlib.Core.List.{List}
use borrow.Author.Tests.{lt-ltb, le-ltb}
use lib.Dec.{lit<}
use lib.ListN.{length, get_or, set}
use Rattle.words.proofs.Rows.{set_in_row}
use Rattle.words.proofs.Tests.{test}
use Rattle.answers.specs.Answers.{Said, outcome, plain}
use Rattle.answers.proofs.Tests.{leaves}
use Rattle.history.specs.History.{most_keys, is_edition}
use Rattle.keyrow.specs.Row.{row_words}
use Rattle.keyrow.specs.View.{with_edition, edited_row}
use Rattle.lookup.specs.Layout.{table_words, row_of, slot_of}
use Rattle.lookup.proofs.Words.{row_word}
use Rattle.table.specs.Layout.{put_row}
use Rattle.edition.specs.Edition.{edition_tests, edited}

-- ---- the three ways of the definition

module _ (t : List ℕ) (key e : ℕ) where
  abbrev slot : ℕ
  slot = slot_of t key

  pub not-held : most_keys ≤ slot_of t key → edited t key e ≡ outcome (plain 11) t
  unfolding edited
  not-held h = rw (le-ltb slot most_keys h)

  pub no_edition : slot_of t key < most_keys → is_edition e ≡ false → edited t key e ≡ outcome (plain 27) t
  unfolding edited
  no_edition h f = rw (lt-ltb slot most_keys h, f)

  pub into_row : slot_of t key < most_keys → is_edition e ≡ true → edited t key e ≡ outcome (plain 0) (put_row t (slot_of t key) (edited_row (row_of t (slot_of t key)) e))
  unfolding edited
  into_row h f = rw (lt-ltb slot most_keys h, f)

  -- a refusal, 11 or 27, leaves every word
  pub refusal_leaves : ((edited t key e).answer.number ≡ 0 → ⊥) → (edited t key e).memory ≡ t
  unfolding edited
  refusal_leaves n = leaves (edition_tests t key e) t (outcome (plain 0) (put_row t slot (edited_row (row_of t slot) e))) n

-- what the call tells, by the slot that it found
module _ (t : List ℕ) (key e i : ℕ) (its : i ≡ slot_of t key) (a : Said) where
  pub told_11 : most_keys ≤ i → a ≡ plain 11 → outcome a t ≡ edited t key e
  told_11 h q = ap (λ (x : Said). outcome x t) q ∙ sym (not-held t key e (omega (arith, its)))

  pub told_27 : i < most_keys → is_edition e ≡ false → a ≡ plain 27 → outcome a t ≡ edited t key e
  told_27 h f q = ap (λ (x : Said). outcome x t) q ∙ sym (no_edition t key e (omega (arith, its)) f)

  pub told_0 : i < most_keys → is_edition e ≡ true → (later : List ℕ) → later ≡ put_row t i (edited_row (row_of t i) e) → a ≡ plain 0 → outcome a later ≡ edited t key e
  told_0 h f later g q =
      ap₂ outcome q (g ∙ ap (λ (j : ℕ). put_row t j (edited_row (row_of t j) e)) its) ∙ sym (into_row t key e (omega (arith, its)) f)

-- ---- the word that is stored

pub word-edited : (t : List ℕ) → length t ≡ table_words → (i : ℕ) → i < most_keys → (v e : ℕ) → v ≡ with_edition (get_or t (i * row_words + 2) 0) e
    → set t (i * row_words + 2) v ≡ put_row t i (edited_row (row_of t i) e)
unfolding edited_row
word-edited t long i h v e q =
    set_in_row row_words t i 2 v (lit< tt)
    ∙ ap (λ (x : ℕ). put_row t i (set (row_of t i) 2 x)) (q ∙ ap (λ (x : ℕ). with_edition x e) (sym (row_word t long i 2 h (lit< tt))))

-- so one word of the key's own row is written, and of it one bit (keyrow, Edition.antt), or none is
pub one_word : (t : List ℕ) → length t ≡ table_words → (key e : ℕ)
    → ((edited t key e).memory ≡ t) ⊎ ((edited t key e).memory ≡ set t (slot_of t key * row_words + 2) (with_edition (get_or t (slot_of t key * row_words + 2) 0) e))
one_word t long key e =
    elim (dec_lt (slot_of t key) most_keys) [
      | yes h ↦ test (is_edition e) (λ y. inr (rw (into_row t key e h y) (sym (word-edited t long (slot_of t key) h _ e refl)))) (λ n. inl (rw (no_edition t key e h n)))
      | no h ↦ inl (rw (not-held t key e (omega arith)))
    ]
