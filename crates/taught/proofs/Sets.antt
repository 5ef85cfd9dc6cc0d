-- The set of a key under a history of frames, and what its map says: each place that a map has was said by one message of the set, and a frame can teach it.
-- Assumes nothing.
use Prim.Native.Nat.{ℕ}
use mathlib.Core.Path.{◌≡◌, subst}
use mathlib.Core.Logic.{⊎_elim}
use mathlib.Core.Option.{Option, some}
use mathlib.Core.List.Memᴰ
use mathlib.Core.List.{List, [], ◌∷◌, Memᴰ}
use Rattle.words.proofs.Tests.{test}
use Rattle.message.specs.declared.Key.{Key}
use Rattle.message.specs.declared.Head.{Head}
use Rattle.message.specs.declared.Place.{Place}
use Rattle.message.specs.declared.Message.{Message}
use Rattle.maps.specs.Maps.{same_key, Map, Held, map_of, IsMap, Says}
use Rattle.maps.proofs.Tests.{key_eq}
use Rattle.maps.proofs.Maps.{is-map}
use Rattle.history.specs.History.{Event, Learn, Forget, Edition, since, set_of, kept}
use Rattle.history.proofs.Since.{since-edition}
use Rattle.written.specs.Written.{Teachable}
use Rattle.taught.specs.Taught.{AllTaught}
use Rattle.taught.proofs.Histories.{taught-kept}

-- ---- the members

-- each names the key, and a frame can teach it
pub since-taught : (h : List Event) → AllTaught h → (k : Key) (m : Message) → Memᴰ m (since h k) → Teachable m × (m.key ≡ k)
since-taught [] u k m i = absurd (Memᴰ.not-nil i)
since-taught (Learn j ∷ h) u k m i =
    test (same_key j.key k)
    (λ t. ⊎_elim (λ (e : m ≡ j). rw e (u.0, key_eq j.key k t)) (λ d. since-taught h u.1 k m d) (Memᴰ.cases_cons (rw t at i)))
    (λ f. since-taught h u.1 k m (rw f at i))
since-taught (Forget j ∷ h) u k m i =
    test (same_key j k) (λ t. absurd (Memᴰ.not-nil (rw t at i))) (λ f. since-taught h u.1 k m (rw f at i))
since-taught (Edition j e ∷ h) u k m i = since-taught h u.1 k m (rw (since-edition j e h k) at i)

pub set-taught : (h : List Event) → AllTaught h → (k : Key) (m : Message) → Memᴰ m (set_of h k) → Teachable m × (m.key ≡ k)
set-taught h u = since-taught (kept h) (taught-kept h u)

-- ---- the map

abbrev pub placed : Key → Head → ℕ → Place → Message
placed k h p x = record { key = k; head = h; position = p; place = x }

-- what stands at a position of a key's map is what one of its messages said
pub said_by_lem : (h : List Event) → AllTaught h → (k : Key) (head : Head) (places : ℕ → Option Place) → map_of (set_of h k) ≡ Held head places
    → (p : ℕ) (x : Place) → places p ≡ some x → Memᴰ (placed k head p x) (set_of h k)
said_by_lem h u k head places e p x q = go (subst (λ (m : Map). IsMap (set_of h k) m) e (is-map (set_of h k)))
  where
    go : Says (set_of h k) head places → Memᴰ (placed k head p x) (set_of h k)
    go g =
        let (m, i, a, b) = g.only p x q in
        let c = (set-taught h u k m i).1 in
        let same : m ≡ placed k head p x = λ j. record { key = c j; head = g.head-is m i j; position = a j; place = b j } in
        subst (λ (y : Message). Memᴰ y (set_of h k)) same i
