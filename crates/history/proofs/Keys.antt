-- The keys of a history: those whose collection is not empty, each once; and how many they are. Assumes nothing.
use Prim.Native.Nat.{suc, ◌≤◌}
use native.Mathlib.Omega.{arith}
use mathlib.Core.Path.{subst, ◌≡◌, refl, sym, ap, ◌∙◌}
use mathlib.Core.Bool.{Bool, true, false, ◌&&◌, ◌||◌, not, and-false, or-true}
use mathlib.Core.List.{List, [], ◌∷◌}
use lib.ListN.{length}
use Rattle.message.specs.declared.Key.{Key}
use Rattle.maps.specs.Maps.{same_key}
use Rattle.words.proofs.Tests.{test, never}
use Rattle.maps.proofs.Tests.{key_eq, key-refl}
use Rattle.history.specs.History.{Event, Learn, Forget, Edition, is_empty, since, without, keys}

-- the key stands in the list
abbrev pub has : Key → List Key → Bool
has k [] = false
has k (j ∷ ks) = same_key j k || has k ks

-- each key stands there once
abbrev pub Once : List Key → Type 0
Once [] = Unit {0}
Once (k ∷ ks) = (has k ks ≡ false) × Once ks

pub other_way : (j k : Key) → same_key j k ≡ false → same_key k j ≡ false
other_way j k f = test (same_key k j) (λ t. never (rw (key_eq k j t) (key-refl j)) f) (λ g. g)

-- ---- a list without a key

pub has-without : (i k : Key) (ks : List Key) → has i (without k ks) ≡ (not (same_key k i) && has i ks)
has-without i k [] = sym (and-false (not (same_key k i)))
has-without i k (j ∷ ks) =
    test (same_key k j) (λ e. rw (e, ← (key_eq k j e), has-without i k ks) (test (same_key k i) (λ t. rw t) (λ g. rw g)))
    (λ f. rw (f, has-without i k ks) (test (same_key k i) (λ t. rw (t, ← (key_eq k i t), other_way k j f)) (λ g. rw g)))

without_absent : (k : Key) (ks : List Key) → has k ks ≡ false → without k ks ≡ ks
without_absent k [] e = refl
without_absent k (j ∷ ks) e =
    test (same_key j k) (λ t. never (rw t) e) (λ f. rw (other_way j k f) (ap (λ (l : List Key). j ∷ l) (without_absent k ks (rw f at e))))

pub without_le : (k : Key) (ks : List Key) → length (without k ks) ≤ length ks
without_le k [] = omega arith
without_le k (j ∷ ks) = let ih = without_le k ks in test (same_key k j) (λ t. rw t (omega arith)) (λ f. rw f (omega arith))

pub once-without : (k : Key) (ks : List Key) → Once ks → Once (without k ks)
once-without k [] u = tt
once-without k (j ∷ ks) u =
    test (same_key k j) (λ t. rw t (once-without k ks u.1))
    (λ f. rw f (rw (has-without j k ks, u.0) (and-false (not (same_key k j))), once-without k ks u.1))

pub without-one : (k : Key) (ks : List Key) → Once ks → has k ks ≡ true → suc (length (without k ks)) ≡ length ks
without-one k [] u e = never e refl
without-one k (j ∷ ks) u e =
    test (same_key j k)
    (λ t.
    let P : Key → Type 0 = λ x. suc (length (without x (j ∷ ks))) ≡ length (j ∷ ks) in
    subst P (key_eq j k t) (rw (key-refl j) (ap suc (ap length (without_absent j ks u.0)))))
    (λ f. rw (other_way j k f) (ap suc (without-one k ks u.1 (rw f at e))))

-- two lists of the same keys, each once, are as long as each other: the number of keys held is one number, however they are listed
pub same_count : (a b : List Key) → Once a → Once b → ((k : Key) → has k a ≡ has k b) → length a ≡ length b
same_count [] [] u v same = refl
same_count [] (j ∷ b) u v same = never (rw (key-refl j)) (sym (same j))
same_count (k ∷ a) b u v same =
    ap suc (same_count a (without k b) u.1 (once-without k b v) rest)
    ∙ without-one k b v (sym (same k) ∙ rw (key-refl k))
  where
    rest : (j : Key) → has j a ≡ has j (without k b)
    rest j =
        rw (has-without j k b, ← (same j))
        (test (same_key k j) (λ t. rw t (rw (← (key_eq k j t)) u.0)) (λ f. rw f))

-- different keys that all stand in a list are no more than it
pub sub-count : (a b : List Key) → Once a → Once b → ((k : Key) → has k a ≡ true → has k b ≡ true) → length a ≤ length b
sub-count [] b u v sub = omega arith
sub-count (k ∷ a) b u v sub =
    let q = without-one k b v (sub k (rw (key-refl k))) in
    omega (arith, q, sub-count a (without k b) u.1 (once-without k b v) rest)
  where
    rest : (j : Key) → has j a ≡ true → has j (without k b) ≡ true
    rest j t =
        rw (has-without j k b, sub j (rw t (or-true (same_key k j))))
        (test (same_key k j) (λ s. never t (rw (← (key_eq k j s)) u.0)) (λ n. rw n))

-- ---- the keys of a history

-- they are those whose collection is not empty
pub has-keys : (h : List Event) (k : Key) → has k (keys h) ≡ not (is_empty (since h k))
has-keys [] k = refl
has-keys (Learn m ∷ h) k =
    test (is_empty (since h m.key)) (λ t. rw t (test (same_key m.key k) (λ s. rw s) (λ f. rw (f, has-keys h k))))
    (λ n. rw (n, has-keys h k) (test (same_key m.key k) (λ s. rw (s, ← (key_eq m.key k s), n)) (λ f. rw f)))
has-keys (Forget j ∷ h) k = has-without k j (keys h) ∙ test (same_key j k) (λ t. rw t) (λ f. rw (f, has-keys h k))
has-keys (Edition j e ∷ h) k = has-keys h k ∙ test (same_key j k) (λ t. rw t) (λ f. rw f)

pub keys-once : (h : List Event) → Once (keys h)
keys-once [] = tt
keys-once (Learn m ∷ h) =
    test (is_empty (since h m.key)) (λ t. rw t (has-keys h m.key ∙ ap not t, keys-once h)) (λ f. rw f (keys-once h))
keys-once (Forget k ∷ h) = once-without k (keys h) (keys-once h)
keys-once (Edition k e ∷ h) = keys-once h
