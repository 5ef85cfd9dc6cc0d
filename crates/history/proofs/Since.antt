-- What one event more makes of a key's collection, and of its map. Assumes nothing.
use Prim.Native.Nat.{ℕ}
use mathlib.Core.Path.{◌≡◌, refl, sym, ap, ◌∙◌}
use mathlib.Core.Bool.{true, false, cond}
use mathlib.Core.List.{List, [], ◌∷◌}
use Rattle.words.specs.Runs as runs
use Rattle.words.proofs.Runs.{fold-since}
use Rattle.message.specs.declared.Key.{Key}
use Rattle.message.specs.declared.Message.{Message}
use Rattle.maps.specs.Maps.{same_key, Map, Nothing, map_of, learned}
use Rattle.words.proofs.Tests.{test, never}
use Rattle.maps.proofs.Tests.{key-refl}
use Rattle.maps.proofs.Maps.{map_more}
use Rattle.history.specs.History.{Event, Learn, Forget, Edition, names, forgets, messages, since}
use Rattle.history.specs.Table.{step}

-- ---- the collection

pub since_learn : (m : Message) (h : List Event) → since (Learn m ∷ h) m.key ≡ m ∷ since h m.key
since_learn m h = rw (key-refl m.key)

pub since_forget : (k : Key) (h : List Event) → since (Forget k ∷ h) k ≡ []
since_forget k h = rw (key-refl k)

-- an edition brings no message, and takes none
pub since-edition : (j : Key) (e : ℕ) (h : List Event) (k : Key) → since (Edition j e ∷ h) k ≡ since h k
since-edition j e h k = test (same_key j k) (λ t. rw t) (λ f. rw f)

pub since-other : (e : Event) (h : List Event) (k : Key) → names k e ≡ false → since (e ∷ h) k ≡ since h k
since-other e h k f = rw f

-- ---- the map

-- events without a forget make of nothing the map of their messages
learned_all : (l : List Event) → runs.fold step Nothing (runs.since forgets l) ≡ map_of (messages (runs.since forgets l))
learned_all [] = refl
learned_all (Learn m ∷ l) = ap (λ (M : Map). learned M m) (learned_all l) ∙ sym (map_more m (messages (runs.since forgets l)))
learned_all (Forget k ∷ l) = refl
learned_all (Edition k e ∷ l) = learned_all l

again : (M : Map) (e : Event) → forgets e ≡ true → step M e ≡ Nothing
again M (Learn m) t = never t refl
again M (Forget k) t = refl
again M (Edition k e) t = never t refl

-- a key's own events, one after another, make the map of its collection
pub own_steps : (h : List Event) (k : Key) → runs.fold step Nothing (runs.only (names k) h) ≡ map_of (since h k)
own_steps h k = fold-since step Nothing forgets again (runs.only (names k) h) ∙ learned_all (runs.only (names k) h)

-- so one event more is one step for the key that it names, and none for any other
pub one-event : (e : Event) (h : List Event) (k : Key) → map_of (since (e ∷ h) k) ≡ cond (names k e) (step (map_of (since h k)) e) (map_of (since h k))
one-event e h k =
    sym (own_steps (e ∷ h) k)
    ∙ test (names k e) (λ t. rw t (ap (λ (M : Map). step M e) (own_steps h k))) (λ f. rw f (own_steps h k))
