-- The messages that an image stands for: which they are, that they are heard, and the map that they make of each key. Assumes nothing.
use Prim.Native.Nat.{ℕ, zero, suc, ◌+◌, ◌≤◌, ◌<◌}
use native.Mathlib.Omega.{arith}
use native.Mathlib.Decide.{ℕ_discrete}
use mathlib.Core.Path.{◌≡◌, refl, sym, ap, subst, ◌∙◌}
use mathlib.Core.Logic.{◌⊎◌, inl, inr, ⊎_elim}
use mathlib.Core.Bool.{true, false, or-true}
use mathlib.Core.Option.{Option, some}
use mathlib.Core.List.Memᴰ
use mathlib.Core.List.{List, [], ◌∷◌, Memᴰ}
use lib.ListN.{length}
use Rattle.words.proofs.Tests.{test, never}
use Rattle.message.specs.declared.Key.{Key}
use Rattle.message.specs.declared.Head.{Head}
use Rattle.message.specs.declared.Place.{Place}
use Rattle.message.specs.declared.Message.{Message}
use Rattle.maps.specs.Maps.{Map, Nothing, Conflict, Held, map_of, IsMap, Says, same_key}
use Rattle.maps.proofs.Tests.{key_eq, key-refl}
use Rattle.maps.proofs.Maps.{is-map, unique}
use Rattle.history.specs.History.{most_keys, Event, Learn, is_empty, since, keys, Few}
use Rattle.history.proofs.Keys.{has, Once, keys-once, sub-count}
use Rattle.written.specs.Written.{Teachable}
use Rattle.written.proofs.Written.{heard_back}
use Rattle.taught.specs.Taught.{AllTaught, AllTeachable}
use Rattle.taught.proofs.Sets.{placed}
use Rattle.image.specs.Write.{place_or}
use Rattle.image.proofs.Parse.{message_at, said_by_all, body_messages, map_messages, key_messages}
use Rattle.image.proofs.Sayable.{Sayable}

-- ---- messages as events

abbrev pub learn_all : List Message → List Event
learn_all [] = []
learn_all (m ∷ ms) = Learn m ∷ learn_all ms

-- the frames of teachable messages say them
pub said_all : (ms : List Message) → AllTeachable ms → said_by_all ms ≡ learn_all ms
said_all [] u = refl
said_all (m ∷ ms) u = rw (heard_back m u.0, said_all ms u.1)

pub learn_taught : (ms : List Message) → AllTeachable ms → AllTaught (learn_all ms)
learn_taught [] u = tt
learn_taught (m ∷ ms) u = (u.0, learn_taught ms u.1)

-- of such a history a key's collection is its messages
pub since-from : (ms : List Message) (k : Key) (m : Message) → Memᴰ m (since (learn_all ms) k) → Memᴰ m ms × (m.key ≡ k)
since-from [] k m i = absurd (Memᴰ.not-nil i)
since-from (j ∷ ms) k m i =
    test (same_key j.key k)
    (λ t. ⊎_elim (λ (e : m ≡ j). (Memᴰ.head e, ap (λ (x : Message). x.key) e ∙ key_eq j.key k t)) (λ d. let (a, b) = since-from ms k m d in (Memᴰ.tail a, b)) (Memᴰ.cases_cons (rw t at i)))
    (λ f. let (a, b) = since-from ms k m (rw f at i) in (Memᴰ.tail a, b))

pub since-to : (ms : List Message) (k : Key) (m : Message) → Memᴰ m ms → m.key ≡ k → Memᴰ m (since (learn_all ms) k)
since-to [] k m i e = absurd (Memᴰ.not-nil i)
since-to (j ∷ ms) k m i e =
    ⊎_elim (λ (q : m ≡ j). let s : same_key j.key k ≡ true = ap (λ (x : Message). same_key x.key k) (sym q) ∙ rw e (key-refl k) in rw s (Memᴰ.head q))
    (λ d. test (same_key j.key k) (λ t. rw t (Memᴰ.tail (since-to ms k m d e))) (λ f. rw f (since-to ms k m d e)))
    (Memᴰ.cases_cons i)

-- ---- which messages they are

-- a map says this message
abbrev pub Of : Map → Message → Type 0
Of Nothing m = ⊥
Of Conflict m = ⊥
Of (Held h places) m = (m.head ≡ h) × (1 ≤ m.position) × (m.position ≤ h.n) × (m.place ≡ place_or (places m.position))

body_from_lem : (k : Key) (h : Head) (places : ℕ → Option Place) (n q : ℕ) (ms : List Message) (m : Message) → Memᴰ m (body_messages k h places q n ms)
    → Memᴰ m ms ⊎ ((p : ℕ) × (q ≤ p) × (p < q + n) × (m ≡ message_at k h places p))
unfolding body_messages
body_from_lem k h places zero q ms m i = inl i
body_from_lem k h places (suc n) q ms m i =
    ⊎_elim
    (λ d. ⊎_elim (λ e. inr (q, omega arith, omega arith, e)) (λ c. inl c) (Memᴰ.cases_cons d))
    (λ s. let (p, a, b, e) = s in inr (p, omega arith, omega arith, e))
    (body_from_lem k h places n (suc q) (message_at k h places q ∷ ms) m i)

body_old : (k : Key) (h : Head) (places : ℕ → Option Place) (n q : ℕ) (ms : List Message) (m : Message) → Memᴰ m ms → Memᴰ m (body_messages k h places q n ms)
unfolding body_messages
body_old k h places zero q ms m i = i
body_old k h places (suc n) q ms m i = body_old k h places n (suc q) (message_at k h places q ∷ ms) m (Memᴰ.tail i)

body_to : (k : Key) (h : Head) (places : ℕ → Option Place) (n q : ℕ) (ms : List Message) (p : ℕ) (m : Message) → q ≤ p → p < q + n → m ≡ message_at k h places p → Memᴰ m (body_messages k h places q n ms)
unfolding body_messages
body_to k h places zero q ms p m a b e = absurd (omega arith)
body_to k h places (suc n) q ms p m a b e = go (ℕ_discrete q p) (body_to k h places n (suc q) (message_at k h places q ∷ ms) p m)
  where
    go : Dec (q ≡ p) → (suc q ≤ p → p < suc q + n → m ≡ message_at k h places p → Memᴰ m (body_messages k h places (suc q) n (message_at k h places q ∷ ms)))
        → Memᴰ m (body_messages k h places (suc q) n (message_at k h places q ∷ ms))
    go (yes z) ih = body_old k h places n (suc q) (message_at k h places q ∷ ms) m (Memᴰ.head (e ∙ ap (message_at k h places) (sym z)))
    go (no z) ih = ih (omega arith) (omega arith) e

map-from : (k : Key) (M : Map) (ms : List Message) (m : Message) → Memᴰ m (map_messages k M ms) → Memᴰ m ms ⊎ ((m.key ≡ k) × Of M m)
map-from k Nothing ms m i = inl i
map-from k Conflict ms m i = inl i
map-from k (Held h places) ms m i =
    ⊎_elim (λ d. inl d)
    (λ s. let (p, a, b, e) = s in
    inr (ap (λ (x : Message). x.key) e, (ap (λ (x : Message). x.head) e, rw e a, rw e (omega arith), rw e)))
    (body_from_lem k h places h.n 1 ms m i)

map_old : (k : Key) (M : Map) (ms : List Message) (m : Message) → Memᴰ m ms → Memᴰ m (map_messages k M ms)
map_old k Nothing ms m i = i
map_old k Conflict ms m i = i
map_old k (Held h places) ms m i = body_old k h places h.n 1 ms m i

map-to : (k : Key) (M : Map) (ms : List Message) (m : Message) → m.key ≡ k → Of M m → Memᴰ m (map_messages k M ms)
map-to k Nothing ms m e u = absurd u
map-to k Conflict ms m e u = absurd u
map-to k (Held h places) ms m e u =
    body_to k h places h.n 1 ms m.position m u.1 (omega (arith, u.2)) (λ i. record { key = e i; head = u.0 i; position = m.position; place = u.3 i })

module _ (map : Key → Map) where
  pub keys_from_lem : (ks : List Key) (ms : List Message) (m : Message) → Memᴰ m (key_messages map ks ms) → Memᴰ m ms ⊎ ((has m.key ks ≡ true) × Of (map m.key) m)
  unfolding key_messages
  keys_from_lem [] ms m i = inl i
  keys_from_lem (k ∷ ks) ms m i =
      ⊎_elim
      (λ d. ⊎_elim (λ c. inl c) (λ s. inr (rw (s.0, key-refl k), subst (λ (j : Key). Of (map j) m) (sym s.0) s.1)) (map-from k (map k) ms m d))
      (λ s. inr (rw s.0 (or-true (same_key k m.key)), s.1))
      (keys_from_lem ks (map_messages k (map k) ms) m i)

  keys_old : (ks : List Key) (ms : List Message) (m : Message) → Memᴰ m ms → Memᴰ m (key_messages map ks ms)
  unfolding key_messages
  keys_old [] ms m i = i
  keys_old (k ∷ ks) ms m i = keys_old ks (map_messages k (map k) ms) m (map_old k (map k) ms m i)

  pub keys-to : (ks : List Key) (ms : List Message) (m : Message) → has m.key ks ≡ true → Of (map m.key) m → Memᴰ m (key_messages map ks ms)
  unfolding key_messages
  keys-to [] ms m t u = never t refl
  keys-to (k ∷ ks) ms m t u =
      test (same_key k m.key)
      (λ s. let e = key_eq k m.key s in keys_old ks (map_messages k (map k) ms) m (map-to k (map k) ms m (sym e) (rw e u)))
      (λ f. keys-to ks (map_messages k (map k) ms) m (rw f at t) u)

  -- ---- the map of each key

  -- a map is held, said by frames, and whole
  pub record Whole (k : Key) (h : Head) (places : ℕ → Option Place) : Type 0 where
    pub taught : Sayable k h places
    pub present : (p : ℕ) → 1 ≤ p → p ≤ h.n → (x : Place) × (places p ≡ some x)

  abbrev pub WholeMap : Key → Map → Type 0
  WholeMap k Nothing = ⊥
  WholeMap k Conflict = ⊥
  WholeMap k (Held h places) = Whole k h places

  module _ (ks : List Key) where
    abbrev pub said : List Message
    said = key_messages map ks []

    pub from : (m : Message) → Memᴰ m said → (has m.key ks ≡ true) × Of (map m.key) m
    from m i = ⊎_elim (λ d. absurd (Memᴰ.not-nil d)) (λ s. s) (keys_from_lem ks [] m i)

    says_held : (k : Key) → has k ks ≡ true → (h : Head) (places : ℕ → Option Place) → map k ≡ Held h places → Whole k h places → Says (since (learn_all said) k) h places
    says_held k t h places q w =
        let (x₁, e₁) = w.present 1 (omega arith) w.taught.count.0 in
        record {
          first = placed k h 1 x₁;
          first_in = member 1 x₁ e₁;
          head-is = λ m i. (of m i).0;
          place_is = λ m i. let (a, b, c, d) = of m i in let (x, e) = w.present m.position b c in e ∙ ap some (sym (d ∙ ap place_or e));
          only = λ p x e. (placed k h p x, member p x e, refl, refl);
        }
      where
        of : (m : Message) → Memᴰ m (since (learn_all said) k) → Of (Held h places) m
        of m i = let (a, b) = since-from said k m i in subst (λ (M : Map). Of M m) q (subst (λ (j : Key). Of (map j) m) b (from m a).1)

        member : (p : ℕ) (x : Place) → places p ≡ some x → Memᴰ (placed k h p x) (since (learn_all said) k)
        member p x e =
            let r = (w.taught.each p x e).position in
            since-to said k (placed k h p x) (keys-to ks [] (placed k h p x) t (rw q (refl, r.0, r.1, rw e))) refl

    pub says_map : (k : Key) → has k ks ≡ true → WholeMap k (map k) → map_of (since (learn_all said) k) ≡ map k
    says_map k t w =
        unique (since (learn_all said) k) (since (learn_all said) k) (λ m. (λ i. i, λ i. i)) (map_of (since (learn_all said) k)) (map k) (is-map (since (learn_all said) k)) (go (map k) refl w)
      where
        go : (M : Map) → map k ≡ M → WholeMap k M → IsMap (since (learn_all said) k) M
        go Nothing q u = absurd u
        go Conflict q u = absurd u
        go (Held h places) q u = says_held k t h places q u

    pub says_nothing : (k : Key) → has k ks ≡ false → map_of (since (learn_all said) k) ≡ Nothing
    says_nothing k f =
        unique (since (learn_all said) k) (since (learn_all said) k) (λ m. (λ i. i, λ i. i)) (map_of (since (learn_all said) k)) Nothing (is-map (since (learn_all said) k))
        (λ m i. let (a, b) = since-from said k m i in never (ap (λ (j : Key). has j ks) (sym b) ∙ (from m a).0) f)

    -- ---- and all of them have room

    module _ (w : (k : Key) → has k ks ≡ true → WholeMap k (map k)) where
      teachable : (m : Message) → Memᴰ m said → Teachable m
      teachable m i = let (t, o) = from m i in go (map m.key) (w m.key t) o
        where
          go : (M : Map) → WholeMap m.key M → Of M m → Teachable m
          go Nothing u o = absurd u
          go Conflict u o = absurd u
          go (Held h places) u o =
              let (x, e) = u.present m.position o.1 o.2 in
              let same : m ≡ placed m.key h m.position x = λ i. record { key = m.key; head = o.0 i; position = m.position; place = (o.3 ∙ ap place_or e) i } in
              subst Teachable (sym same) (u.taught.each m.position x e)

      pub all_teachable : AllTeachable said
      all_teachable = go said (λ m i. i)
        where
          go : (ms : List Message) → ((m : Message) → Memᴰ m ms → Memᴰ m said) → AllTeachable ms
          go [] f = tt
          go (m ∷ ms) f = (teachable m (f m (Memᴰ.head refl)), go ms (λ x i. f x (Memᴰ.tail i)))

-- messages of at most 16 keys leave room at every moment
keys_in : (ms : List Message) (ks : List Key) → ((m : Message) → Memᴰ m ms → has m.key ks ≡ true) → (k : Key) → has k (keys (learn_all ms)) ≡ true → has k ks ≡ true
keys_in [] ks f k t = never t refl
keys_in (m ∷ ms) ks f k t =
    test (is_empty (since (learn_all ms) m.key))
    (λ e. test (same_key m.key k) (λ s. rw (sym (key_eq m.key k s)) (f m (Memᴰ.head refl))) (λ n. keys_in ms ks (λ x i. f x (Memᴰ.tail i)) k (rw (e, n) at t)))
    (λ e. keys_in ms ks (λ x i. f x (Memᴰ.tail i)) k (rw e at t))

pub few_listed : (ms : List Message) (ks : List Key) → Once ks → ((m : Message) → Memᴰ m ms → has m.key ks ≡ true) → length (keys (learn_all ms)) ≤ length ks
few_listed ms ks o f = sub-count (keys (learn_all ms)) ks (keys-once (learn_all ms)) o (keys_in ms ks f)

pub few : (ms : List Message) (ks : List Key) → Once ks → length ks ≤ most_keys → ((m : Message) → Memᴰ m ms → has m.key ks ≡ true) → Few (learn_all ms)
few [] ks o l f = tt
few (m ∷ ms) ks o l f = (
  omega (arith, l, few_listed (m ∷ ms) ks o f),
  few ms ks o l (λ x i. f x (Memᴰ.tail i)),
)
