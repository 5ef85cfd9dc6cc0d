-- Under every history of frames each message that answers is one of its key's set: what we send is what we heard, and is heard as that. So every answer goes by the
-- sets of our own address' keys alone. Assumes nothing.
use Prim.Native.Nat.{ℕ, suc, ◌+◌, ◌*◌, ◌<◌}
use native.Mathlib.Omega.{arith}
use mathlib.Core.Path.{◌≡◌, refl, sym, ap, ap₂, subst, ◌∙◌}
use mathlib.Core.Logic.{⊎_elim}
use mathlib.Core.Bool.{Bool, true, false, cond, ◌||◌}
use mathlib.Core.Option.{Option, none, some}
use mathlib.Core.List.Memᴰ
use mathlib.Core.List.{List, [], ◌∷◌, ◌++◌, map, Memᴰ}
use borrow.Author.Tests.{eqb-true}
use lib.Dec.{eqb}
use lib.ListN.{length, drop}
use Rattle.words.specs.First.{first, any, lowest}
use Rattle.words.proofs.Lowest.{any_found}
use Rattle.words.proofs.Tests.{test, never, same_test}
use Rattle.answers.specs.Tests.{tested}
use Rattle.frame.specs.Frame.{fields_of, destination_of}
use Rattle.message.specs.declared.Key.{Key}
use Rattle.message.specs.declared.Head.{Head}
use Rattle.message.specs.declared.Place.{Place}
use Rattle.message.specs.declared.Message.{Message}
use Rattle.maps.specs.Maps.{same_key, Map, Nothing, Conflict, Held, map_of, SameMembers}
use Rattle.maps.proofs.Tests.{key_eq, key-refl}
use Rattle.maps.proofs.Maps.{same_map}
use Rattle.judge.specs.Judge.{with_width, is_none, spn_in, start_in, spn_at, usable, count_of, params_of}
use Rattle.judge.proofs.Judged.{usable_sound}
use Rattle.history.specs.History.{Event, Learn, since, counts, kept, set_of}
use Rattle.history.proofs.Keys.{has}
use Rattle.keyrow.specs.Row.{InBytes}
use Rattle.lookup.specs.View.{map_in}
use Rattle.learned.specs.Events.{words_by, AllInWords}
use Rattle.learned.proofs.Theorem.{map_is}
use Rattle.learned.proofs.Rising.{one_list}
use Rattle.ask.specs.Ask.{position_of}
use Rattle.written.specs.Written.{record_of, Teachable}
use Rattle.written.proofs.Records.{heard_in, record_heard}
use Rattle.taught.specs.Taught.{AllTaught, AllTeachable}
use Rattle.taught.proofs.Histories.{taught_in_words}
use Rattle.taught.proofs.Sets.{set-taught, said_by_lem}
use Rattle.locate.specs.Locate.{request_tests, spn_asked, is_ours, tells, placement, located_keys, located, answers_to, room_tests, lay_done, located_by}
use Rattle.locate.proofs.Keys.{tells-three, exactly, key_order, of_bytes}
use Rattle.locate.proofs.Laws.{record_at_lem}

-- a key of the rest of a list stands in the list
later : (b : Bool) {c : Bool} → c ≡ true → (b || c) ≡ true
later true y = refl
later false y = y

-- ---- the position of an SPN

position_at : (width_of : ℕ → ℕ) (m : Map) (spn : ℕ) → 0 < position_of width_of m spn
    → (i : ℕ) × (i < count_of m) × (spn_at (params_of width_of m) i ≡ spn) × (position_of width_of m spn ≡ suc i)
unfolding position_of lowest
position_at width_of m spn h =
    let p : ℕ → Bool = λ i. eqb (spn_at (params_of width_of m) i) spn in
    test (any p (count_of m))
    (λ y. let (a, b) = any_found p (count_of m) y in (first p (count_of m), a, eqb-true (spn_at (params_of width_of m) (first p (count_of m))) spn b, rw y))
    (λ n. let z : 0 < 0 = rw n at h in absurd (omega (arith, z)))

stands : (width_of : ℕ → ℕ) (o : Option Place) (spn : ℕ) → is_none (with_width width_of o) ≡ false → spn_in (with_width width_of o) ≡ spn
    → o ≡ some (record { spn = spn; start = start_in (with_width width_of o) })
stands width_of none spn e f = never refl e
stands width_of (some x) spn e f = λ i. some (record { spn = f i; start = x.start })

-- what a usable map has at the SPN's position is what is told of it
place-told : (width_of : ℕ → ℕ) (spn : ℕ) (k : Key) (h : Head) (places : ℕ → Option Place) → usable width_of (Held h places) ≡ true → 0 < position_of width_of (Held h places) spn
    → places (position_of width_of (Held h places) spn) ≡ some (placement width_of spn k (Held h places)).place
unfolding placement
place-told width_of spn k h places u l =
    let (i, n, s, e) = position_at width_of (Held h places) spn l in
    rw e (stands width_of (places (suc i)) spn ((usable_sound width_of (Held h places) u).present i n) s)

module _ (h : List Event) (all : AllTaught h) (width_of : Key → ℕ → ℕ) (own spn : ℕ) where
  abbrev words : List ℕ
  words = words_by h

  -- the message of a key that answers is one of its set
  pub heard_before : (k : Key) → InBytes k → tells (width_of k) own spn k (map_in (words_by h) k) ≡ true → Memᴰ (placement (width_of k) spn k (map_in (words_by h) k)) (set_of h k)
  unfolding placement
  heard_before k b e = go (map_in words k) (sym (map_is h (taught_in_words h all) k b)) (tells-three (width_of k) own spn k (map_in words k) e).1 (tells-three (width_of k) own spn k (map_in words k) e).2
    where
      go : (m : Map) → map_of (set_of h k) ≡ m → usable (width_of k) m ≡ true → 0 < position_of (width_of k) m spn → Memᴰ (placement (width_of k) spn k m) (set_of h k)
      go Nothing q u l = never u refl
      go Conflict q u l = never u refl
      go (Held head places) q u l =
          said_by_lem h all k head places q (position_of (width_of k) (Held head places) spn) (placement (width_of k) spn k (Held head places)).place (place-told (width_of k) spn k head places u l)

  -- a frame can teach it
  pub teachable : (k : Key) → InBytes k → tells (width_of k) own spn k (map_in (words_by h) k) ≡ true → Teachable (placement (width_of k) spn k (map_in (words_by h) k))
  teachable k b e = (set-taught h all k _ (heard_before k b e)).0

  -- "Reading what we wrote": its record, read as a frame, is heard as the message of that key and position
  pub heard_as : (k : Key) → InBytes k → tells (width_of k) own spn k (map_in (words_by h) k) ≡ true → (rest : List ℕ)
      → heard_in (record_of (placement (width_of k) spn k (map_in (words_by h) k)) ++ rest) ≡ record { number = 0; message = some (placement (width_of k) spn k (map_in (words_by h) k)) }
  heard_as k b e rest = record_heard _ (teachable k b e) rest

  -- so are all of them
  pub all_teachable : AllTeachable (located width_of (words_by h) own spn)
  all_teachable = each (located_keys width_of words own spn) (λ k y. let b = of_bytes width_of words own spn k y in teachable k b (sym (exactly width_of words own spn k b) ∙ y))
    where
      each : (ks : List Key) → ((k : Key) → has k ks ≡ true → Teachable (placement (width_of k) spn k (map_in words k))) → AllTeachable (map (λ k. placement (width_of k) spn k (map_in words k)) ks)
      each [] f = tt
      each (k ∷ ks) f = (f k (rw (key-refl k)), each ks (λ j y. f j (later (same_key k j) y)))

-- ---- the log, read record by record

one_of : (xs ys : List Message) (m : Message) → AllTeachable (xs ++ (m ∷ ys)) → Teachable m
one_of [] ys m u = u.0
one_of (x ∷ xs) ys m u = one_of xs ys m u.1

-- after answer 0 the record behind those of the messages before it is heard as its message
pub read_back : (h : List Event) → AllTaught h → (width_of : Key → ℕ → ℕ) (own id len : ℕ) (d log : List ℕ) (start : ℕ) → (located_by width_of (words_by h) own id len d log start).answer.number ≡ 0
    → (xs ys : List Message) (m : Message) → answers_to width_of (words_by h) own id d ≡ xs ++ (m ∷ ys)
    → heard_in (drop (start + 13 * length xs) (located_by width_of (words_by h) own id len d log start).memory) ≡ record { number = 0; message = some m }
read_back h all width_of own id len d log start z xs ys m e =
    ap heard_in (record_at_lem width_of (words_by h) own id len d log start z xs ys m e)
    ∙ record_heard m (one_of xs ys m (subst AllTeachable e (answers_teachable (is_ours own (destination_of (fields_of id)))))) _
  where
    answers_teachable : (b : Bool) → AllTeachable (cond b (located width_of (words_by h) own (spn_asked d)) [])
    answers_teachable true = all_teachable h all width_of own (spn_asked d)
    answers_teachable false = tt

-- ---- learned again, into any table that holds that set, it changes nothing

pub learned_again : (g : List Event) → AllTaught g → (m : Message) → Memᴰ m (set_of g m.key) → (j : Key) → InBytes j
    → map_in (words_by (Learn m ∷ g)) j ≡ map_in (words_by g) j
learned_again g all m i j b =
    map_is (Learn m ∷ g) (taught_in_words (Learn m ∷ g) ((set-taught g all m.key m i).0, all)) j b
    ∙ same_map (set_of (Learn m ∷ g) j) (set_of g j) same ∙ sym (map_is g (taught_in_words g all) j b)
  where
    one : SameMembers (since (Learn m ∷ kept g) j) (set_of g j)
    one x =
        test (same_key m.key j)
        (λ s. rw s (λ d. ⊎_elim (λ (q : x ≡ m). rw (q, ← (key_eq m.key j s)) i) (λ c. c) (Memᴰ.cases_cons d), λ d. Memᴰ.tail d))
        (λ n. rw n (λ d. d, λ d. d))

    same : SameMembers (set_of (Learn m ∷ g) j) (set_of g j)
    same = test (counts (kept g) (Learn m)) (λ y. rw y one) (λ n. rw n (λ x. (λ d. d, λ d. d)))

-- ---- the answer goes by the sets and the dictionaries of our own address' keys

module _ (h g : List Event) (inh : AllInWords h) (ing : AllInWords g) (own : ℕ) (d e : Key → ℕ → ℕ)
    (dicts : (k : Key) → InBytes k → k.source ≡ own → d k ≡ e k) (same : (k : Key) → InBytes k → k.source ≡ own → SameMembers (set_of h k) (set_of g k)) where
  own_map : (k : Key) → InBytes k → k.source ≡ own → map_in (words_by h) k ≡ map_in (words_by g) k
  own_map k b s = map_is h inh k b ∙ same_map (set_of h k) (set_of g k) (same k b s) ∙ sym (map_is g ing k b)

  module _ (spn : ℕ) where
    own_tells : (k : Key) → InBytes k → k.source ≡ own → tells (d k) own spn k (map_in (words_by h) k) ≡ tells (e k) own spn k (map_in (words_by g) k)
    own_tells k b s = λ i. tells (dicts k b s i) own spn k (own_map k b s i)

    same_keys : located_keys d (words_by h) own spn ≡ located_keys e (words_by g) own spn
    same_keys =
        one_list _ _ (key_order d (words_by h) own spn) (key_order e (words_by g) own spn)
        (λ k. same_test (has k (located_keys d (words_by h) own spn)) (has k (located_keys e (words_by g) own spn))
        (λ y. let b = of_bytes d (words_by h) own spn k y in
        let q = sym (exactly d (words_by h) own spn k b) ∙ y in
        exactly e (words_by g) own spn k b ∙ sym (own_tells k b (tells-three (d k) own spn k (map_in (words_by h) k) q).0) ∙ q)
        (λ y. let b = of_bytes e (words_by g) own spn k y in
        let q = sym (exactly e (words_by g) own spn k b) ∙ y in
        exactly d (words_by h) own spn k b ∙ own_tells k b (tells-three (e k) own spn k (map_in (words_by g) k) q).0 ∙ q))

    same-messages : located d (words_by h) own spn ≡ located e (words_by g) own spn
    same-messages =
        each (located_keys d (words_by h) own spn)
        (λ k y. let b = of_bytes d (words_by h) own spn k y in
        let s = (tells-three (d k) own spn k (map_in (words_by h) k) (sym (exactly d (words_by h) own spn k b) ∙ y)).0 in
        λ i. placement (dicts k b s i) spn k (own_map k b s i))
        ∙ ap (map (λ k. placement (e k) spn k (map_in (words_by g) k))) same_keys
      where
        each : (ks : List Key) → ((k : Key) → has k ks ≡ true → placement (d k) spn k (map_in (words_by h) k) ≡ placement (e k) spn k (map_in (words_by g) k))
            → map (λ k. placement (d k) spn k (map_in (words_by h) k)) ks ≡ map (λ k. placement (e k) spn k (map_in (words_by g) k)) ks
        each [] f = refl
        each (k ∷ ks) f = ap₂ (λ (x : Message) (l : List Message). x ∷ l) (f k (rw (key-refl k))) (each ks (λ j y. f j (later (same_key k j) y)))

  -- order, repeats and other keys don't count, nor do the keys of other addresses
  pub same-located : (id len : ℕ) (bytes log : List ℕ) (start : ℕ) → located_by d (words_by h) own id len bytes log start ≡ located_by e (words_by g) own id len bytes log start
  unfolding located_by
  same-located id len bytes log start =
      ap (λ (ms : List Message). tested (request_tests id len bytes ++ room_tests (cond (is_ours own (destination_of (fields_of id))) ms []) log start) log (lay_done (cond (is_ours own (destination_of (fields_of id))) ms []) log start))
      (same-messages (spn_asked bytes))
