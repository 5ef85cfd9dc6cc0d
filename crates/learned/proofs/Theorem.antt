-- Demand 3 for the words: what they hold, and what is answered, after any list of events from the empty table, the latest first. A frame is such a list, none or
-- one (Frames.antt), and so is whatever a later call does to the table.
-- Assumes nothing.
use Prim.Native.Nat.{ℕ, ◌≤◌, ◌<◌}
use native.Mathlib.Omega.{arith}
use mathlib.Core.Path.{◌≡◌, refl, sym, ap, ◌∙◌}
use mathlib.Core.Logic.{◌↔◌}
use mathlib.Core.Bool.{not}
use mathlib.Core.Option.{Option, none, some}
use mathlib.Core.List.{List, [], ◌∷◌}
use lib.ListN.{length, get_or}
use Rattle.message.specs.declared.Key.{Key}
use Rattle.message.specs.declared.Message.{Message}
use Rattle.message.specs.Message.{heard}
use Rattle.message.proofs.WellFormed.{at-most_eight}
use Rattle.maps.specs.Maps.{map_of}
use Rattle.answers.specs.Answers.{Said, plain}
use Rattle.history.specs.History.{most_keys, Event, Learn, Forget, Edition, Silent, is_empty, since, keys, answer, kept, set_of, edition_of, Few}
use Rattle.history.specs.Frames.{heard_answer, frame_answer}
use Rattle.history.proofs.Keys.{has, Once, has-keys, keys-once}
use Rattle.history.proofs.Follows.{follows, nothing_is}
use Rattle.history.proofs.Demand as demand
use Rattle.keyrow.specs.Row.{key_number, InBytes}
use Rattle.lookup.specs.Layout.{table_words}
use Rattle.lookup.specs.View.{map_in, edition_in, key_count}
use Rattle.lookup.specs.Next.{held_keys}
use Rattle.table.specs.Learn.{learn_message, taught, learnt}
use Rattle.table.specs.Forget.{forgotten}
use Rattle.edition.specs.Edition.{edited}
use Rattle.learned.specs.Events.{words_from, words_by, InWords, AllInWords}
use Rattle.learned.proofs.Frames.{in_words}
use Rattle.learned.proofs.Walk.{listed-map}
use Rattle.learned.proofs.Count.{walk-count}
use Rattle.learned.proofs.Events.{looks, event-length, event-answer, event-other}
use Rattle.learned.proofs.Histories.{sane_by, calls_by}
use Rattle.learned.proofs.Editions.{edition-is, event-apart}

module _ (h : List Event) (ok : AllInWords h) where
  -- ---- what is held

  -- of every key the map of its set
  pub map_is : (k : Key) → InBytes k → map_in (words_by h) k ≡ map_of (set_of h k)
  map_is k b = sym (looks (words_by h) k b) ∙ demand.row_is_lem (calls_by h ok) k

  -- as many rows are used as keys have a set that isn't empty
  pub count-is : key_count (words_by h) ≡ length (keys (kept h))
  count-is = (follows (calls_by h ok)).counted

  -- these are counted once each, and never are more than 16
  pub keys_are : (k : Key) → has k (keys (kept h)) ≡ not (is_empty (set_of h k))
  keys_are k = has-keys (kept h) k

  pub counted-once : Once (keys (kept h))
  counted-once = keys-once (kept h)

  pub at_most : key_count (words_by h) ≤ most_keys
  at_most = omega (arith, count-is, demand.at_most h)

  -- walking from first_key by next_key lists exactly these keys, each once and rising (Walk.antt)
  pub listed-is : (k : Key) → InBytes k → has k (held_keys (words_by h)) ≡ not (is_empty (set_of h k))
  listed-is k b = listed-map (words_by h) k b ∙ rw (map_is k b, nothing_is (set_of h k))

  pub listed-count : length (held_keys (words_by h)) ≡ length (keys (kept h))
  listed-count = walk-count (words_by h) (sane_by h ok) ∙ count-is

  -- ---- what is answered

  frame_by : (id len : ℕ) (d : List ℕ) → ((i : ℕ) → get_or d i 0 < 256) → (n : ℕ) (o : Option Message) → (heard id len d).message ≡ o
      → (taught (words_by h) n o).answer ≡ plain (heard_answer (kept h) n o)
  frame_by id len d bytes n none e = refl
  frame_by id len d bytes n (some m) e =
      event-answer (words_by h) (sane_by h ok).long (Learn m) (in_words id len d bytes m e) ∙ ap plain (demand.answered (calls_by h ok) (Learn m))

  -- to every frame the answer that is defined from what was kept of the events
  pub frame-answer : (id len : ℕ) (d : List ℕ) → ((i : ℕ) → get_or d i 0 < 256) → (learnt (words_by h) id len d).answer ≡ plain (frame_answer (kept h) id len d)
  unfolding learnt
  frame-answer id len d bytes = frame_by id len d bytes (heard id len d).number (heard id len d).message refl

  -- and to every forget
  pub forget_answer : (k : Key) → InBytes k → (forgotten (words_by h) (key_number k)).answer ≡ plain (answer (kept h) (Forget k))
  forget_answer k b = event-answer (words_by h) (sane_by h ok).long (Forget k) (record { key = b; row = tt }) ∙ ap plain (demand.answered (calls_by h ok) (Forget k))

  -- and to every edition that is asked
  pub edition-answer : (k : Key) (e : ℕ) → InBytes k → (edited (words_by h) (key_number k) e).answer ≡ plain (answer (kept h) (Edition k e))
  edition-answer k e b =
      event-answer (words_by h) (sane_by h ok).long (Edition k e) (record { key = b; row = tt }) ∙ ap plain (demand.answered (calls_by h ok) (Edition k e))

  -- a well-formed message is answered 9 exactly where its key is new and 16 keys are held now
  nine_message : (m : Message) → InWords (Learn m) → ((learn_message (words_by h) m).answer.number ≡ 9) ↔ ((set_of h m.key ≡ []) × (key_count (words_by h) ≡ most_keys))
  nine_message m f =
      let e = ap (λ (a : Said). a.number) (event-answer (words_by h) (sane_by h ok).long (Learn m) f) in
      let (there, back) = demand.nine (calls_by h ok) m in (
        λ q. let (new, full) = there (sym e ∙ q) in (new, count-is ∙ full),
        λ u. e ∙ back (u.0, sym count-is ∙ u.1),
      )

  -- answer 9: "key new and 16 keys held", exactly
  pub nine : (id len : ℕ) (d : List ℕ) → ((i : ℕ) → get_or d i 0 < 256)
      → ((learnt (words_by h) id len d).answer.number ≡ 9) ↔ ((m : Message) × ((heard id len d).message ≡ some m) × (set_of h m.key ≡ []) × (key_count (words_by h) ≡ most_keys))
  unfolding learnt
  nine id len d bytes = (there (heard id len d).message refl, back)
    where
      there : (o : Option Message) → (heard id len d).message ≡ o → (taught (words_by h) (heard id len d).number o).answer.number ≡ 9
          → (m : Message) × ((heard id len d).message ≡ some m) × (set_of h m.key ≡ []) × (key_count (words_by h) ≡ most_keys)
      there none e q = absurd (omega (arith, at-most_eight id len d, q))
      there (some m) e q = let (new, full) = (nine_message m (in_words id len d bytes m e)).0 q in (m, e, new, full)

      back : (m : Message) × ((heard id len d).message ≡ some m) × (set_of h m.key ≡ []) × (key_count (words_by h) ≡ most_keys)
          → (taught (words_by h) (heard id len d).number (heard id len d).message).answer.number ≡ 9
      back u =
          let (m, e, new, full) = u in
          rw e ((nine_message m (in_words id len d bytes m e)).1 (new, full))

  -- ---- demand 3: where at no moment more than 16 keys had messages, nothing is left out

  module _ (few : Few h) where
    -- what is held of a key is the map of all the messages that name it since its last forget
    pub demand_map : (k : Key) → InBytes k → map_in (words_by h) k ≡ map_of (since h k)
    demand_map k b = sym (looks (words_by h) k b) ∙ demand.demand_row (calls_by h ok) few k

    -- and each call's answer is the one defined from them: to a frame its refusal 1 to 8; to a message that keeps within 16 keys 10 where the messages since the
    -- last forget, with it, are in conflict, else 0
    pub demand_frame : (id len : ℕ) (d : List ℕ) → ((i : ℕ) → get_or d i 0 < 256) → (learnt (words_by h) id len d).answer ≡ plain (frame_answer h id len d)
    demand_frame id len d bytes =
        frame-answer id len d bytes ∙ ap (λ (g : List Event). plain (frame_answer g id len d)) (demand.all_kept h few)

    -- its edition is the one last set since then
    pub demand_edition : (k : Key) → InBytes k → edition_in (words_by h) k ≡ edition_of h k
    demand_edition k b = edition-is h ok k b ∙ ap (λ (g : List Event). edition_of g k) (demand.all_kept h few)

    -- to a forget 11 where there is no such message, else 0
    pub demand_forget : (k : Key) → InBytes k → (forgotten (words_by h) (key_number k)).answer ≡ plain (answer h (Forget k))
    demand_forget k b = forget_answer k b ∙ ap (λ (g : List Event). plain (answer g (Forget k))) (demand.all_kept h few)

    -- to an edition 11 where there is none, 27 where it is none of the two, else 0
    pub demand_set : (k : Key) (e : ℕ) → InBytes k → (edited (words_by h) (key_number k) e).answer ≡ plain (answer h (Edition k e))
    demand_set k e b = edition-answer k e b ∙ ap (λ (g : List Event). plain (answer g (Edition k e))) (demand.all_kept h few)

-- ---- freed room is used again: after a forget of a held key no frame is answered 9

pub room_again : (h : List Event) → AllInWords h → (k : Key) → InBytes k → (set_of h k ≡ [] → ⊥)
    → (id len : ℕ) (d : List ℕ) → ((i : ℕ) → get_or d i 0 < 256) → (learnt (words_by (Forget k ∷ h)) id len d).answer.number ≡ 9 → ⊥
room_again h ok k b held id len d bytes q =
    let all : AllInWords (Forget k ∷ h) = (record { key = b; row = tt }, ok) in
    let (m, e, new, full) = (nine (Forget k ∷ h) all id len d bytes).0 q in
    omega (arith, count-is (Forget k ∷ h) all, full, demand.one_less h k held, demand.at_most h)

-- ---- events that do not name a key leave its map and its edition, whatever the words are

module _ (k : Key) (b : InBytes k) where
  silent_events : (t : List ℕ) → length t ≡ table_words → (es : List Event) → AllInWords es → Silent k es
      → (length (words_from t es) ≡ table_words) × (map_in (words_from t es) k ≡ map_in t k) × (edition_in (words_from t es) k ≡ edition_in t k)
  silent_events t long [] f q = (long, refl, refl)
  silent_events t long (e ∷ es) f q =
      let (l, same, still) = silent_events t long es f.1 q.1 in
      (event-length (words_from t es) l e, event-other (words_from t es) l e f.0 k b q.0 ∙ same, event-apart (words_from t es) l e f.0 k b q.0 ∙ still)

  pub others_leave : (t : List ℕ) → length t ≡ table_words → (es : List Event) → AllInWords es → Silent k es → map_in (words_from t es) k ≡ map_in t k
  others_leave t long es f q = (silent_events t long es f q).1

  pub others_edition : (t : List ℕ) → length t ≡ table_words → (es : List Event) → AllInWords es → Silent k es → edition_in (words_from t es) k ≡ edition_in t k
  others_edition t long es f q = (silent_events t long es f q).2
