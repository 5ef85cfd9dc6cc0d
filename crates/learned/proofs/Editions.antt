-- The edition of each key after one event, on any words of a table's length; and after any history, which is the one defined from it. Assumes nothing.
use Prim.Native.Nat.{ℕ, ◌<◌}
use native.Mathlib.Omega.{arith}
use native.Mathlib.Decide.{dec_lt, ℕ_discrete}
use mathlib.Core.Path.{◌≡◌, sym, ap, ◌∙◌}
use mathlib.Core.Bool.{false, cond, ◌&&◌}
use mathlib.Core.List.{List, [], ◌∷◌}
use borrow.Author.Tests.{eqb-true, eqb-false}
use lib.Dec.{eqb}
use lib.ListN.{length}
use Rattle.words.proofs.Tests.{test}
use Rattle.message.specs.declared.Key.{Key}
use Rattle.maps.specs.Maps.{same_key}
use Rattle.maps.proofs.Tests.{key_eq}
use Rattle.answers.specs.Answers.{Said, Outcome}
use Rattle.history.specs.History.{most_keys, Event, Learn, Forget, Edition, names, is_edition, answer, kept, edition_of}
use Rattle.history.proofs.Demand.{answered, kept-edition, kept_forget}
use Rattle.history.proofs.Edition.{edition-kept}
use Rattle.keyrow.specs.Row.{key_number, InBytes}
use Rattle.lookup.specs.Layout.{table_words, slot_of}
use Rattle.lookup.specs.View.{edition_in}
use Rattle.edition.specs.Edition.{edited}
use Rattle.edition.proofs.Edited.{no_edition, not-held, refusal_leaves}
use Rattle.learned.specs.Events.{event, words_by, InWords, AllInWords}
use Rattle.learned.proofs.KeyNumbers.{same_number}
use Rattle.learned.proofs.Learning.{learn_edition}
use Rattle.learned.proofs.Forgetting.{forget_fresh, forget_edition}
use Rattle.learned.proofs.Editing.{edit_own, edit_other}
use Rattle.learned.proofs.Events.{other, event-answer}
use Rattle.learned.proofs.Histories.{sane_by, calls_by, empty_edition}

-- ---- one event

-- what an event makes of the edition of a key, by what it is answered
abbrev edition_after : List ℕ → Event → Key → ℕ
edition_after t (Learn m) k = edition_in t k
edition_after t (Forget j) k = cond (same_key j k) 2010 (edition_in t k)
edition_after t (Edition j e) k = cond (same_key j k && eqb (event t (Edition j e)).answer.number 0) e (edition_in t k)

module _ (t : List ℕ) (long : length t ≡ table_words) where
  set_after : (j : Key) (e : ℕ) → InBytes j → (k : Key) → InBytes k → edition_in (edited t (key_number j) e).memory k ≡ edition_after t (Edition j e) k
  set_after j e c k b =
      test (same_key j k)
      (λ y. test (eqb (edited t (key_number j) e).answer.number 0)
      (λ z. rw (y, z) (rw (sym (key_eq j k y)) (own (eqb-true _ 0 z))))
      (λ n. rw (y, n) (ap (λ (u : List ℕ). edition_in u k) (refusal_leaves t (key_number j) e (eqb-false _ 0 n)))))
      (λ n. rw n (edit_other t long (key_number j) e k (other j k c b n)))
    where
      own : (edited t (key_number j) e).answer.number ≡ 0 → edition_in (edited t (key_number j) e).memory j ≡ e
      own z = go (dec_lt (slot_of t (key_number j)) most_keys)
        where
          go : Dec (slot_of t (key_number j) < most_keys) → edition_in (edited t (key_number j) e).memory j ≡ e
          go (yes h) =
              test (is_edition e) (λ y. edit_own t long j e h y)
              (λ n. absurd (omega (arith, sym z ∙ ap (λ (o : Outcome). o.answer.number) (no_edition t (key_number j) e h n))))
          go (no h) = absurd (omega (arith, sym z ∙ ap (λ (o : Outcome). o.answer.number) (not-held t (key_number j) e (omega arith))))

  pub event-edition : (e : Event) → InWords e → (k : Key) → InBytes k → edition_in (event t e).memory k ≡ edition_after t e k
  event-edition (Learn m) f k b = learn_edition t long m f.row k (ℕ_discrete (key_number m.key) (key_number k)) (same_number m.key k f.key b)
  event-edition (Forget j) f k b =
      test (same_key j k)
      (λ y. rw (y, ← (key_eq j k y)) (forget_fresh t long j))
      (λ n. rw n (forget_edition t long (key_number j) k (other j k f.key b n)))
  event-edition (Edition j e) f k b = set_after j e f.key k b

-- ---- any history

-- "the edition last set since then", whatever the history
pub edition-is : (h : List Event) → AllInWords h → (k : Key) → InBytes k → edition_in (words_by h) k ≡ edition_of (kept h) k
unfolding edition_of
edition-is [] f k b = empty_edition k
edition-is (Learn m ∷ h) f k b =
    event-edition (words_by h) (sane_by h f.1).long (Learn m) f.0 k b ∙ edition-is h f.1 k b ∙ sym (edition-kept m h k)
edition-is (Forget j ∷ h) f k b =
    event-edition (words_by h) (sane_by h f.1).long (Forget j) f.0 k b
    ∙ ap (cond (same_key j k) 2010) (edition-is h f.1 k b) ∙ sym (ap (λ (g : List Event). edition_of g k) (kept_forget h j))
edition-is (Edition j e ∷ h) f k b =
    event-edition (words_by h) (sane_by h f.1).long (Edition j e) f.0 k b
    ∙ (λ i. cond (same_key j k && eqb (told i) 0) e (edition-is h f.1 k b i)) ∙ sym (ap (λ (g : List Event). edition_of g k) (kept-edition h j e))
  where
    told : (event (words_by h) (Edition j e)).answer.number ≡ answer (kept h) (Edition j e)
    told = ap (λ (a : Said). a.number) (event-answer (words_by h) (sane_by h f.1).long (Edition j e) f.0) ∙ answered (calls_by h f.1) (Edition j e)

-- events that name other keys leave it, whatever the words are
pub event-apart : (t : List ℕ) → length t ≡ table_words → (e : Event) → InWords e → (k : Key) → InBytes k → names k e ≡ false → edition_in (event t e).memory k ≡ edition_in t k
event-apart t long (Learn m) f k b n = event-edition t long (Learn m) f k b
event-apart t long (Forget j) f k b n = event-edition t long (Forget j) f k b ∙ rw n
event-apart t long (Edition j e) f k b n = event-edition t long (Edition j e) f k b ∙ rw n
