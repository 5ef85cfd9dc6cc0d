-- Messages learned one after another on top of a history: whose collection each joins, and that as many keys as a table has room for leave none out.
-- Assumes nothing.
use Prim.Native.Nat.{◌≤◌}
use native.Mathlib.Omega.{arith}
use mathlib.Core.Path.{subst, ◌≡◌, refl, sym, ap, ◌∙◌}
use mathlib.Core.Logic.{◌⊎◌, inl, inr, ⊎_elim}
use mathlib.Core.Bool.{true}
use mathlib.Core.List.Memᴰ
use mathlib.Core.List.{List, [], ◌∷◌, Memᴰ}
use lib.ListN.{length}
use Rattle.words.proofs.Tests.{test}
use Rattle.message.specs.declared.Key.{Key}
use Rattle.message.specs.declared.Message.{Message}
use Rattle.maps.specs.Maps.{same_key}
use Rattle.maps.proofs.Tests.{key_eq, key-refl}
use Rattle.history.specs.History.{most_keys, Event, Learn, is_empty, since, keys, Few}
use Rattle.history.proofs.Keys.{has, Once, sub-count, keys-once}
use Rattle.taught.specs.Taught.{learned_on}

-- ---- the collection of a key

-- one message more joins the collection of its own key
joins : (h : List Event) (m : Message) → Memᴰ m (since (Learn m ∷ h) m.key)
joins h m = rw (key-refl m.key) (Memᴰ.head refl)

-- and what was there stays
stays : (h : List Event) (j m : Message) (k : Key) → Memᴰ m (since h k) → Memᴰ m (since (Learn j ∷ h) k)
stays h j m k i = test (same_key j.key k) (λ t. rw t (Memᴰ.tail i)) (λ f. rw f i)

pub still_in : (ms : List Message) (h : List Event) (m : Message) (k : Key) → Memᴰ m (since h k) → Memᴰ m (since (learned_on h ms) k)
still_in [] h m k i = i
still_in (j ∷ ms) h m k i = still_in ms (Learn j ∷ h) m k (stays h j m k i)

pub is_in : (ms : List Message) (h : List Event) (m : Message) → Memᴰ m ms → Memᴰ m (since (learned_on h ms) m.key)
is_in [] h m i = absurd (Memᴰ.not-nil i)
is_in (j ∷ ms) h m i =
    ⊎_elim
    (λ (e : m ≡ j). still_in ms (Learn j ∷ h) m m.key (let P : Message → Type 0 = λ x. Memᴰ x (since (Learn j ∷ h) x.key) in subst P (sym e) (joins h j)))
    (λ d. is_in ms (Learn j ∷ h) m d) (Memᴰ.cases_cons i)

-- nothing else comes in
pub came_from_lem : (ms : List Message) (h : List Event) (m : Message) (k : Key) → Memᴰ m (since (learned_on h ms) k) → (Memᴰ m ms × (m.key ≡ k)) ⊎ Memᴰ m (since h k)
came_from_lem [] h m k i = inr i
came_from_lem (j ∷ ms) h m k i =
    ⊎_elim (λ (d : Memᴰ m ms × (m.key ≡ k)). inl (Memᴰ.tail d.0, d.1))
    (λ d. test (same_key j.key k)
    (λ t. ⊎_elim (λ (e : m ≡ j). inl (Memᴰ.head e, ap (λ (x : Message). x.key) e ∙ key_eq j.key k t)) (λ c. inr c) (Memᴰ.cases_cons (rw t at d)))
    (λ f. inr (rw f at d)))
    (came_from_lem ms (Learn j ∷ h) m k i)

-- ---- how many keys

-- every key of the history stands in the list
abbrev pub AllIn : List Event → List Key → Type 0
AllIn h ks = (k : Key) → has k (keys h) ≡ true → has k ks ≡ true

all_in : (h : List Event) (m : Message) (ks : List Key) → has m.key ks ≡ true → AllIn h ks → AllIn (Learn m ∷ h) ks
all_in h m ks e a k t =
    test (is_empty (since h m.key))
    (λ y. test (same_key m.key k) (λ s. rw (sym (key_eq m.key k s)) e) (λ n. a k (rw (y, n) at t)))
    (λ y. a k (rw y at t))

-- where all the messages name keys of a list of at most 16, at no moment more than 16 keys have messages
pub few_on : (ks : List Key) → Once ks → length ks ≤ most_keys → (ms : List Message) (h : List Event)
    → ((m : Message) → Memᴰ m ms → has m.key ks ≡ true) → AllIn h ks → Few h → Few (learned_on h ms)
few_on ks o l [] h f a u = u
few_on ks o l (m ∷ ms) h f a u =
    let b = all_in h m ks (f m (Memᴰ.head refl)) a in
    few_on ks o l ms (Learn m ∷ h) (λ x i. f x (Memᴰ.tail i)) b (omega (arith, l, sub-count (keys (Learn m ∷ h)) ks (keys-once (Learn m ∷ h)) o b), u)
