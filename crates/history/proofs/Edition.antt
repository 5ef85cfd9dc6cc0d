-- The edition of a key: what each event makes of it, and that only the key's own events since its last forget count. Assumes nothing.
use Prim.Native.Nat.{ℕ}
use mathlib.Core.Path.{◌≡◌, refl, sym, ap, ◌∙◌}
use mathlib.Core.Bool.{Bool, true, false, cond}
use mathlib.Core.List.{List, [], ◌∷◌, ◌++◌}
use borrow.Author.Tests.{ne_eqb}
use lib.Dec.{eqb}
use Rattle.message.specs.declared.Key.{Key}
use Rattle.message.specs.declared.Message.{Message}
use Rattle.maps.specs.Maps.{same_key}
use Rattle.words.proofs.Tests.{test, never}
use Rattle.maps.proofs.Tests.{key_eq, key-refl}
use Rattle.history.specs.History.{Event, Learn, Forget, Edition, names, is_empty, since, is_edition, answer, counts, kept, edition_of}
use Rattle.history.proofs.Since.{since-edition}

-- "A fresh key has 2010", and a forget brings it back
pub edition-fresh : (h : List Event) (k : Key) → edition_of (Forget k ∷ h) k ≡ 2010
unfolding edition_of
edition-fresh h k = rw (key-refl k)

-- "a command changes one held key's edition": it has the edition that was asked
pub edition-set : (h : List Event) (k : Key) (e : ℕ) → is_empty (since h k) ≡ false → is_edition e ≡ true → edition_of (Edition k e ∷ h) k ≡ e
unfolding edition_of
edition-set h k e held two = rw (key-refl k, held, two)

-- a command that is refused changes none
pub edition-refused : (h : List Event) (j : Key) (e : ℕ) → (answer h (Edition j e) ≡ 0 → ⊥) → (k : Key) → edition_of (Edition j e ∷ h) k ≡ edition_of h k
unfolding edition_of
edition-refused h j e n k = rw (ne_eqb (answer h (Edition j e)) 0 n) (test (same_key j k) (λ t. rw t) (λ f. rw f))

-- an event that names another key leaves it
pub edition-other : (e : Event) (h : List Event) (k : Key) → names k e ≡ false → edition_of (e ∷ h) k ≡ edition_of h k
unfolding edition_of
edition-other (Learn m) h k f = refl
edition-other (Forget j) h k f = rw f
edition-other (Edition j e) h k f = rw f

-- a message that is answered 9, and so is left out, leaves it too
pub edition-kept : (m : Message) (h : List Event) (k : Key) → edition_of (kept (Learn m ∷ h)) k ≡ edition_of (kept h) k
unfolding edition_of
edition-kept m h k = test (counts (kept h) (Learn m)) (λ t. rw t) (λ f. rw f)

-- one of the two
zero_two : (a b : Bool) → eqb (cond {A = ℕ} a 11 (cond b 0 27)) 0 ≡ true → b ≡ true
zero_two true b e = never e refl
zero_two false true e = refl
zero_two false false e = never e refl

pub edition_two : (h : List Event) (k : Key) → is_edition (edition_of h k) ≡ true
unfolding edition_of
edition_two [] k = refl
edition_two (Learn m ∷ h) k = edition_two h k
edition_two (Forget j ∷ h) k = test (same_key j k) (λ t. rw t) (λ f. rw f (edition_two h k))
edition_two (Edition j e ∷ h) k =
    test (same_key j k)
    (λ t. test (eqb (answer h (Edition j e)) 0) (λ y. rw (t, y) (zero_two (is_empty (since h j)) (is_edition e) y)) (λ n. rw (t, n) (edition_two h k)))
    (λ f. rw f (edition_two h k))

-- a key that is not held has 2010
pub edition_unheld : (h : List Event) (k : Key) → is_empty (since h k) ≡ true → edition_of h k ≡ 2010
unfolding edition_of
edition_unheld [] k e = refl
edition_unheld (Learn m ∷ h) k e = test (same_key m.key k) (λ t. never e (rw t)) (λ f. edition_unheld h k (rw f at e))
edition_unheld (Forget j ∷ h) k e = test (same_key j k) (λ t. rw t) (λ f. rw f (edition_unheld h k (rw f at e)))
edition_unheld (Edition j x ∷ h) k e =
    let u : is_empty (since h k) ≡ true = ap is_empty (sym (since-edition j x h k)) ∙ e in
    test (same_key j k) (λ t. let q = key_eq j k t in rw (t, q, u, edition_unheld h k u)) (λ f. rw f (edition_unheld h k u))

-- ---- "the messages since the last forget and the edition last set since then"

-- what was before a forget of the key counts for neither
pub since-last : (a h : List Event) (k : Key) → since (a ++ (Forget k ∷ h)) k ≡ since a k
since-last [] h k = rw (key-refl k)
since-last (Learn m ∷ a) h k = test (same_key m.key k) (λ t. rw t (ap (λ (s : List Message). m ∷ s) (since-last a h k))) (λ f. rw f (since-last a h k))
since-last (Forget j ∷ a) h k = test (same_key j k) (λ t. rw t) (λ f. rw f (since-last a h k))
since-last (Edition j e ∷ a) h k = since-edition j e (a ++ (Forget k ∷ h)) k ∙ since-last a h k ∙ sym (since-edition j e a k)

pub edition-last : (a h : List Event) (k : Key) → edition_of (a ++ (Forget k ∷ h)) k ≡ edition_of a k
unfolding edition_of
edition-last [] h k = rw (key-refl k)
edition-last (Learn m ∷ a) h k = edition-last a h k
edition-last (Forget j ∷ a) h k = test (same_key j k) (λ t. rw t) (λ f. rw f (edition-last a h k))
edition-last (Edition j e ∷ a) h k =
    test (same_key j k)
    (λ t. let q = key_eq j k t in rw (t, q, since-last a h k, edition-last a h k))
    (λ f. rw f (edition-last a h k))
