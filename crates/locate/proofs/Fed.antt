-- "Reading what we wrote teaches the same placement": the records that answer, fed to an empty table as a log, make of each key that answered the map with its one
-- parameter at its position, and of no other key anything. Assumes nothing.
use Prim.Native.Nat.{ℕ, ◌≤◌}
use native.Mathlib.Omega.{arith}
use mathlib.Core.Path.{◌≡◌, refl, sym, ap, subst, ◌∙◌}
use mathlib.Core.Logic.{⊎_elim}
use mathlib.Core.Bool.{Bool, true, false, ◌||◌}
use mathlib.Core.Option.{none, some}
use mathlib.Core.List.Memᴰ
use mathlib.Core.List.{List, [], ◌∷◌, map, flatten, append-nil, Memᴰ}
use lib.ListN.{length}
use Rattle.words.proofs.Tests.{test, never}
use Rattle.message.specs.declared.Key.{Key}
use Rattle.message.specs.declared.Message.{Message}
use Rattle.message.specs.Message.{Heard}
use Rattle.record.specs.Cut.{over}
use Rattle.record.proofs.Cutting.{over-more, over-short}
use Rattle.maps.specs.Maps.{same_key, Nothing, Held, map_of, places_with, SameMembers}
use Rattle.maps.proofs.Tests.{key_eq, key-refl}
use Rattle.maps.proofs.Maps.{same_map, map_more}
use Rattle.history.specs.History.{most_keys, Event, Learn, since, Few}
use Rattle.history.proofs.Keys.{has, Once}
use Rattle.keyrow.specs.Row.{InBytes}
use Rattle.lookup.specs.View.{map_in}
use Rattle.table.specs.Learn.{empty_table, learn_message, taught, learnt}
use Rattle.learned.specs.Events.{words_from, words_by}
use Rattle.learned.proofs.Theorem.{demand_map}
use Rattle.feeding.specs.declared.Counts.{Counts}
use Rattle.feeding.specs.Counts.{no_counts, with_answer}
use Rattle.feeding.specs.Feed.{State, state, with_outcome, step, started, feeding}
use Rattle.written.specs.Written.{record_of, log_of, Teachable}
use Rattle.written.proofs.Records.{record_long, heard_in, record_heard}
use Rattle.taught.specs.Taught.{AllTaught, AllTeachable, learned_on}
use Rattle.taught.proofs.Histories.{taught_in_words, taught_on}
use Rattle.taught.proofs.Learned.{is_in, came_from_lem, few_on}
use Rattle.locate.specs.Locate.{head_in, placement, located_keys, located}
use Rattle.locate.proofs.Keys.{each-once, at-most_16}
use Rattle.locate.proofs.Heard.{all_teachable}

-- ---- a log of messages, fed to a table

-- one record is one message learned
record_learned : (t : List ℕ) (c : Counts) (m : Message) → Teachable m → step (state t c) (record_of m) ≡ with_outcome c (learn_message t m)
unfolding step learnt
record_learned t c m u =
    let e : heard_in (record_of m) ≡ record { number = 0; message = some m } = ap heard_in (sym (append-nil (record_of m))) ∙ record_heard m u [] in
    ap (λ (x : Heard). with_outcome c (taught t x.number x.message)) e

pub log_learned : (ms : List Message) → AllTeachable ms → (t : List ℕ) (g : List Event) (c : Counts) → (over step (state (words_from t g) c) (log_of ms)).words ≡ words_from t (learned_on g ms)
unfolding flatten
log_learned [] u t g c = ap (λ (s : State). s.words) (over-short [] (omega arith) step (state (words_from t g) c))
log_learned (m ∷ ms) u t g c =
    let w = words_from t g in
    ap (λ (s : State). s.words) (over-more (record_of m) (log_of ms) (record_long m) step (state w c))
    ∙ ap (λ (s : State). (over step s (log_of ms)).words) (record_learned w c m u.0)
    ∙ log_learned ms u.1 t (Learn m ∷ g) (with_answer c (learn_message w m).answer.number)

-- from an empty table, as the program that lists a log begins
pub fed-learned : (ms : List Message) → AllTeachable ms → (feeding empty_table started (log_of ms)).words ≡ words_by (learned_on [] ms)
unfolding feeding
fed-learned ms u = log_learned ms u empty_table [] no_counts

-- ---- one message for each of some keys

module _ (f : Key → Message) (its : (k : Key) → (f k).key ≡ k) where
  of_key : (ks : List Key) (m : Message) → Memᴰ m (map f ks) → (has m.key ks ≡ true) × (m ≡ f m.key)
  of_key [] m i = absurd (Memᴰ.not-nil i)
  of_key (k ∷ ks) m i =
      ⊎_elim
      (λ (e : m ≡ f k). let q : m.key ≡ k = ap (λ (x : Message). x.key) e ∙ its k in (rw (q, key-refl k), e ∙ ap f (sym q)))
      (λ d. let (a, b) = of_key ks m d in (later (same_key k m.key) a, b))
      (Memᴰ.cases_cons i)
    where
      later : (b : Bool) {c : Bool} → c ≡ true → (b || c) ≡ true
      later true y = refl
      later false y = y

  has_key : (ks : List Key) (k : Key) → has k ks ≡ true → Memᴰ (f k) (map f ks)
  has_key [] k e = never e refl
  has_key (j ∷ ks) k e = test (same_key j k) (λ s. Memᴰ.head (ap f (sym (key_eq j k s)))) (λ n. Memᴰ.tail (has_key ks k (rw n at e)))

  module _ (ks : List Key) (once : Once ks) (few : length ks ≤ most_keys) (all : AllTeachable (map f ks)) where
    abbrev after : List Event
    after = learned_on [] (map f ks)

    not_many : Few after
    not_many = few_on ks once few (map f ks) [] (λ m i. (of_key ks m i).0) (λ k e. never e refl) tt

    map-after : (k : Key) → InBytes k → map_in (words_by after) k ≡ map_of (since after k)
    map-after k b = demand_map after (taught_in_words after (taught_on (map f ks) [] all tt)) not_many k b

    -- a key that has a message has that one
    one-message : (k : Key) → InBytes k → has k ks ≡ true → map_in (words_by after) k ≡ Held (f k).head (places_with (λ p. none) (f k))
    one-message k b e = map-after k b ∙ same_map (since after k) (f k ∷ []) same ∙ map_more (f k) []
      where
        same : SameMembers (since after k) (f k ∷ [])
        same m = (
          λ i. ⊎_elim (λ (d : Memᴰ m (map f ks) × (m.key ≡ k)). Memᴰ.head ((of_key ks m d.0).1 ∙ ap f d.1)) (λ d. absurd (Memᴰ.not-nil d)) (came_from_lem (map f ks) [] m k i),
          λ i. let q : m ≡ f k = Memᴰ.eq_of_singleton i in
              rw q (subst (λ (j : Key). Memᴰ (f k) (since after j)) (its k) (is_in (map f ks) [] (f k) (has_key ks k e))),
        )

    -- any other has none
    no_message : (k : Key) → InBytes k → has k ks ≡ false → map_in (words_by after) k ≡ Nothing
    no_message k b e = map-after k b ∙ same_map (since after k) [] same
      where
        same : SameMembers (since after k) []
        same m = (
          λ i. ⊎_elim (λ (d : Memᴰ m (map f ks) × (m.key ≡ k)). never (ap (λ (j : Key). has j ks) (sym d.1) ∙ (of_key ks m d.0).0) e) (λ d. d) (came_from_lem (map f ks) [] m k i),
          λ i. absurd (Memᴰ.not-nil i),
        )

-- ---- the records that answer

module _ (h : List Event) (all : AllTaught h) (width_of : Key → ℕ → ℕ) (own spn : ℕ) where
  abbrev message : Key → Message
  message k = placement (width_of k) spn k (map_in (words_by h) k)

  its_key : (k : Key) → (message k).key ≡ k
  unfolding placement
  its_key k = refl

  -- the table that an empty one becomes by reading them
  abbrev pub reread : List ℕ
  reread = (feeding empty_table started (log_of (located width_of (words_by h) own spn))).words

  reread_is : reread ≡ words_by (learned_on [] (located width_of (words_by h) own spn))
  reread_is = fed-learned (located width_of (words_by h) own spn) (all_teachable h all width_of own spn)

  -- of a key that answered: n and the flags, and the SPN with its start at its position alone
  pub same-placement : (k : Key) → InBytes k → has k (located_keys width_of (words_by h) own spn) ≡ true
      → map_in reread k ≡ Held (head_in (map_in (words_by h) k)) (places_with (λ p. none) (placement (width_of k) spn k (map_in (words_by h) k)))
  unfolding placement
  same-placement k b e =
      ap (λ (t : List ℕ). map_in t k) reread_is
      ∙ one-message message its_key (located_keys width_of (words_by h) own spn) (each-once width_of (words_by h) own spn) (at-most_16 width_of (words_by h) own spn) (all_teachable h all width_of own spn) k b e

  -- of any other key: nothing
  pub nothing_else : (k : Key) → InBytes k → has k (located_keys width_of (words_by h) own spn) ≡ false → map_in reread k ≡ Nothing
  nothing_else k b e =
      ap (λ (t : List ℕ). map_in t k) reread_is
      ∙ no_message message its_key (located_keys width_of (words_by h) own spn) (each-once width_of (words_by h) own spn) (at-most_16 width_of (words_by h) own spn) (all_teachable h all width_of own spn) k b e
