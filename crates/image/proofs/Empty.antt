-- Loading into an empty table, whatever came before: none of the messages is answered 9, and every key has the map and the edition that it has in a fresh box. Assumes nothing.
use Prim.Native.Nat.{ℕ, ◌≤◌}
use native.Mathlib.Omega.{arith}
use mathlib.Core.Path.{◌≡◌, refl, sym, ap, ◌∙◌}
use mathlib.Core.Bool.{true, false, cond, not, ◌&&◌}
use mathlib.Core.List.{List, [], ◌∷◌, ◌++◌}
use lib.ListN.{length}
use Rattle.words.proofs.Tests.{test, never}
use Rattle.message.specs.declared.Key.{Key}
use Rattle.message.specs.declared.Message.{Message}
use Rattle.record.specs.Record.{Bytes}
use Rattle.answers.specs.Answers.{Outcome, outcome, plain}
use Rattle.answers.proofs.Tests.{leaves}
use Rattle.maps.specs.Maps.{map_of, same_key, conflict}
use Rattle.history.specs.History.{most_keys, Event, Learn, is_empty, since, keys, no_room, counts, kept, set_of, edition_of, Few}
use Rattle.history.proofs.Edition.{edition_unheld}
use Rattle.history.proofs.Keys.{has, has-keys}
use Rattle.history.proofs.Demand.{ten_or_zero, room, all_kept}
use Rattle.keyrow.specs.Row.{InBytes}
use Rattle.lookup.specs.View.{map_in, edition_in}
use Rattle.lookup.specs.Next.{held_keys}
use Rattle.table.specs.Learn.{empty_table}
use Rattle.learned.specs.Events.{words_from, words_by, AllInWords}
use Rattle.learned.proofs.Histories.{words_append, all_append}
use Rattle.learned.proofs.Editions.{edition-is}
use Rattle.learned.proofs.Theorem.{map_is, listed-count}
use Rattle.image.specs.Write.{saved_keys}
use Rattle.image.specs.Read.{form_of, events_of, good, load_tests, loaded}
use Rattle.taught.specs.Taught.{AllTaught}
use Rattle.taught.proofs.Histories.{taught_in_words}
use Rattle.image.proofs.Members.{learn_all}
use Rattle.image.proofs.Parse.{form_two, edited_all}
use Rattle.image.proofs.Editions.{since-edited, edited-append, kept-edited, edition_alike, edition-learned, edition-fresh}
use Rattle.image.proofs.Again.{events-taught, given, ms, stands_for, few_messages, good-is, can_tell}

-- ---- a refused load changes no word

pub load_refused : (t l : List ℕ) → ((loaded t l).answer.number ≡ 0 → ⊥) → (loaded t l).memory ≡ t
unfolding loaded
load_refused t l n = leaves (load_tests t l) t (outcome (plain 0) (words_from t (events_of l))) n

-- ---- messages after a history that left no key

module _ (g : List Event) (none_left : (k : Key) → since g k ≡ []) (no_keys : keys g ≡ []) where
  none_set : (k : Key) → edition_of g k ≡ 2010
  none_set k = edition_unheld g k (ap is_empty (none_left k))

  since-over : (ms : List Message) (k : Key) → since (learn_all ms ++ g) k ≡ since (learn_all ms) k
  since-over [] k = none_left k
  since-over (m ∷ ms) k = test (same_key m.key k) (λ t. rw t (ap (λ (s : List Message). m ∷ s) (since-over ms k))) (λ f. rw f (since-over ms k))

  keys-over : (ms : List Message) → keys (learn_all ms ++ g) ≡ keys (learn_all ms)
  keys-over [] = no_keys
  keys-over (m ∷ ms) = rw (since-over ms m.key, keys-over ms)

  counted : (m : Message) (ms : List Message) → length (keys (learn_all (m ∷ ms))) ≤ most_keys → counts (learn_all ms ++ g) (Learn m) ≡ true
  counted m ms l =
      let r : no_room (learn_all ms ++ g) m.key ≡ false = room (learn_all ms ++ g) m (rw (keys-over (m ∷ ms)) l) in
      rw (r, ten_or_zero (conflict (m ∷ since (learn_all ms ++ g) m.key)))

  -- "A load into an empty table never gets 9": all of its messages count
  pub all_count : (h : List Event) → kept h ≡ g → (ms : List Message) → Few (learn_all ms) → kept (learn_all ms ++ h) ≡ learn_all ms ++ g
  all_count h q [] u = q
  all_count h q (m ∷ ms) u = rw (all_count h q ms u.1, counted m ms u.0)

-- ---- an empty table

empty_is : {A : Type 0} (s : List A) → is_empty s ≡ true → s ≡ []
empty_is [] e = refl
empty_is (m ∷ s) e = never e refl

same_empty : {A B : Type 0} (a : List A) (b : List B) → length a ≡ length b → is_empty a ≡ is_empty b
same_empty [] [] e = refl
same_empty [] (y ∷ b) e = absurd (omega arith)
same_empty (x ∷ a) [] e = absurd (omega arith)
same_empty (x ∷ a) (y ∷ b) e = refl

module _ (h : List Event) (ok : AllInWords h) where
  -- a table is empty exactly where its history has left no key
  pub empty_when : is_empty (held_keys (words_by h)) ≡ is_empty (keys (kept h))
  empty_when = same_empty (held_keys (words_by h)) (keys (kept h)) (listed-count h ok)

  -- what a load makes of the words: those of its messages after what came before, or nothing where it is refused
  pub load_events : (l : List ℕ) → (loaded (words_by h) l).memory ≡ words_by (cond (good l && is_empty (keys (kept h))) (events_of l ++ h) h)
  unfolding loaded
  load_events l =
      rw empty_when
      (test (good l)
      (λ g. test (is_empty (keys (kept h))) (λ e. rw (g, e) (sym (words_append empty_table (events_of l) h))) (λ e. rw (g, e)))
      (λ g. rw g))

  module _ (e : is_empty (held_keys (words_by h)) ≡ true) where
    left-keys : keys (kept h) ≡ []
    left-keys = empty_is (keys (kept h)) (sym empty_when ∙ e)

    left_none : (k : Key) → since (kept h) k ≡ []
    left_none k =
        empty_is (since (kept h) k)
        (test (is_empty (since (kept h) k)) (λ t. t) (λ f. never (has-keys (kept h) k ∙ ap not f) (ap (has k) left-keys)))

    -- what an undamaged image stands for makes of an empty table what it makes of a fresh one
    module _ (l : List ℕ) (b : Bytes l) (g : good l ≡ true) where
      -- a load that is done is these events, after those that came before
      pub load_done : loaded (words_by h) l ≡ outcome (plain 0) (words_by (events_of l ++ h))
      unfolding loaded
      load_done = rw (g, e) (ap (outcome (plain 0)) (sym (words_append empty_table (events_of l) h)))

      ours : AllTaught (events_of l)
      ours = events-taught l b

      -- its messages, and then the editions of some keys
      abbrev mine : List Message
      mine = ms (form_of l) (form_two l) (events_of l) ours (can_tell l b)

      abbrev theirs : Key → ℕ
      theirs = edition_in (words_by (events_of l))

      abbrev whose : List Key
      whose = given (form_of l) (saved_keys (words_by (events_of l)))

      events_are : events_of l ≡ edited_all theirs whose (learn_all mine)
      events_are = ap events_of (sym (good-is l g)) ∙ stands_for (form_of l) (form_two l) (events_of l) ours (can_tell l b)

      few_told : Few (learn_all mine)
      few_told = few_messages (form_of l) (form_two l) (events_of l) ours (can_tell l b)

      -- none of them is left out
      kept-told : kept (events_of l ++ h) ≡ edited_all theirs whose (learn_all mine ++ kept h)
      kept-told =
          ap (λ (x : List Event). kept (x ++ h)) events_are ∙ ap kept (edited-append theirs whose (learn_all mine) h)
          ∙ kept-edited theirs whose (learn_all mine ++ h) ∙ ap (edited_all theirs whose) (all_count (kept h) left_none left-keys h refl mine few_told)

      pub kept_all : kept (events_of l ++ h) ≡ events_of l ++ kept h
      kept_all = kept-told ∙ sym (edited-append theirs whose (learn_all mine) (kept h)) ∙ ap (λ (x : List Event). x ++ kept h) (sym events_are)

      kept_own : kept (events_of l) ≡ edited_all theirs whose (learn_all mine)
      kept_own = ap kept events_are ∙ kept-edited theirs whose (learn_all mine) ∙ ap (edited_all theirs whose) (all_kept (learn_all mine) few_told)

      same_set : (k : Key) → set_of (events_of l ++ h) k ≡ set_of (events_of l) k
      same_set k =
          ap (λ (x : List Event). since x k) kept-told ∙ since-edited theirs whose (learn_all mine ++ kept h) k
          ∙ since-over (kept h) left_none left-keys mine k
          ∙ sym (ap (λ (x : List Event). since x k) kept_own ∙ since-edited theirs whose (learn_all mine) k)

      same-edition : (k : Key) → edition_of (kept (events_of l ++ h)) k ≡ edition_of (kept (events_of l)) k
      same-edition k =
          ap (λ (x : List Event). edition_of x k) kept-told
          ∙ edition_alike theirs whose (learn_all mine ++ kept h) (learn_all mine) k (since-over (kept h) left_none left-keys mine k)
          (edition-learned mine (kept h) k ∙ none_set (kept h) left_none left-keys k ∙ sym (edition-fresh mine k))
          ∙ sym (ap (λ (x : List Event). edition_of x k) kept_own)

      pub into_empty : (k : Key) → InBytes k → map_in (loaded (words_by h) l).memory k ≡ map_in (words_by (events_of l)) k
      into_empty k i =
          ap (λ (o : Outcome). map_in o.memory k) load_done
          ∙ map_is (events_of l ++ h) (all_append (events_of l) h (taught_in_words (events_of l) ours) ok) k i
          ∙ ap map_of (same_set k) ∙ sym (map_is (events_of l) (taught_in_words (events_of l) ours) k i)

      pub edition_into_empty : (k : Key) → InBytes k → edition_in (loaded (words_by h) l).memory k ≡ edition_in (words_by (events_of l)) k
      edition_into_empty k i =
          ap (λ (o : Outcome). edition_in o.memory k) load_done
          ∙ edition-is (events_of l ++ h) (all_append (events_of l) h (taught_in_words (events_of l) ours) ok) k i
          ∙ same-edition k ∙ sym (edition-is (events_of l) (taught_in_words (events_of l) ours) k i)
