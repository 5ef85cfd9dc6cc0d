-- Which keys answer: exactly those of our own address whose map is usable and has the SPN, each once and rising. Assumes nothing.
use Prim.Native.Nat.{ℕ, zero, suc, ◌≤◌, ◌<◌}
use native.Mathlib.Omega.{arith}
use mathlib.Core.Path.{◌≡◌, sym, ap, ◌∙◌}
use mathlib.Core.Bool.{Bool, true, false, not, ◌&&◌, and-false, and-true, and-eq-true_iff, true≢false}
use mathlib.Core.Option.{Option, none, some}
use mathlib.Core.List.{List, [], ◌∷◌}
use borrow.Author.Tests.{eqb-true, ltb-true}
use lib.Dec.{eqb}
use lib.ListN.{length}
use Rattle.words.specs.Runs.{only}
use Rattle.words.proofs.Tests.{test}
use Rattle.message.specs.declared.Key.{Key}
use Rattle.maps.specs.Maps.{same_key, Map, Nothing, Conflict, Held, is_nothing}
use Rattle.maps.proofs.Tests.{key_eq}
use Rattle.judge.specs.Judge.{usable}
use Rattle.history.specs.History.{most_keys}
use Rattle.history.proofs.Keys.{has, Once}
use Rattle.keyrow.specs.Row.{InBytes}
use Rattle.lookup.specs.View.{map_in}
use Rattle.lookup.specs.Next.{next_key, first_key, walk, held_keys, AllAbove, Rising}
use Rattle.ask.specs.Ask.{position_of}
use Rattle.learned.proofs.Walk.{in_order_lem, listed-map, listed-once, listed-bytes}
use Rattle.locate.specs.Locate.{tells, located_keys}

-- ---- the keys of a list that pass a test

module _ (p : Key → Bool) where
  pub has-only : (k : Key) (ks : List Key) → has k (only p ks) ≡ (p k && has k ks)
  has-only k [] = sym (and-false (p k))
  has-only k (j ∷ ks) =
      test (p j)
      (λ t. rw t (test (same_key j k) (λ s. let q : p k ≡ true = ap p (sym (key_eq j k s)) ∙ t in rw (s, q)) (λ n. rw (n, has-only k ks))))
      (λ f. rw (f, has-only k ks) (test (same_key j k) (λ s. let q : p k ≡ false = ap p (sym (key_eq j k s)) ∙ f in rw (s, q)) (λ n. rw n)))

  above_only : (k : Key) (ks : List Key) → AllAbove k ks → AllAbove k (only p ks)
  above_only k [] u = tt
  above_only k (j ∷ ks) u = test (p j) (λ t. rw t (u.0, above_only k ks u.1)) (λ f. rw f (above_only k ks u.1))

  rising-only : (ks : List Key) → Rising ks → Rising (only p ks)
  rising-only [] u = tt
  rising-only (k ∷ ks) u = test (p k) (λ t. rw t (above_only k ks u.0, rising-only ks u.1)) (λ f. rw f (rising-only ks u.1))

  once-only : (ks : List Key) → Once ks → Once (only p ks)
  once-only [] u = tt
  once-only (k ∷ ks) u =
      test (p k) (λ t. rw t (has-only k ks ∙ rw u.0 (and-false (p k)), once-only ks u.1)) (λ f. rw f (once-only ks u.1))

  few_only : (ks : List Key) → length (only p ks) ≤ length ks
  few_only [] = omega arith
  few_only (k ∷ ks) = let ih = few_only ks in test (p k) (λ t. rw t (omega arith)) (λ f. rw f (omega arith))

pub walk_few : (n : ℕ) (t : List ℕ) (given : Option Key) → length (walk n t given) ≤ n
unfolding walk
walk_few zero t given = omega arith
walk_few (suc n) t none = omega arith
walk_few (suc n) t (some k) = let ih = walk_few n t (next_key t k) in omega arith

-- ---- a key that answers

-- its three tests
pub tells-three : (width_of : ℕ → ℕ) (own spn : ℕ) (k : Key) (m : Map) → tells width_of own spn k m ≡ true → (k.source ≡ own) × (usable width_of m ≡ true) × (0 < position_of width_of m spn)
tells-three width_of own spn k m e =
    let (a, b) = (and-eq-true_iff (eqb k.source own) _).0 e in
    let (u, p) = (and-eq-true_iff (usable width_of m) _).0 b in
    (eqb-true k.source own a, u, ltb-true 0 (position_of width_of m spn) p)

-- it is held
held_tells : (width_of : ℕ → ℕ) (own spn : ℕ) (k : Key) (m : Map) → (tells width_of own spn k m && not (is_nothing m)) ≡ tells width_of own spn k m
held_tells width_of own spn k Nothing = rw (and-false (eqb k.source own))
held_tells width_of own spn k Conflict = and-true (tells width_of own spn k Conflict)
held_tells width_of own spn k (Held h places) = and-true (tells width_of own spn k (Held h places))

-- ---- of a table

module _ (width_of : Key → ℕ → ℕ) (t : List ℕ) (own spn : ℕ) where
  abbrev answers : Key → Bool
  answers k = tells (width_of k) own spn k (map_in t k)

  -- "one message per usable key of our own address that holds it": these keys and no other
  pub exactly : (k : Key) → InBytes k → has k (located_keys width_of t own spn) ≡ tells (width_of k) own spn k (map_in t k)
  exactly k b = has-only answers k (held_keys t) ∙ rw (listed-map t k b) (held_tells (width_of k) own spn k (map_in t k))

  -- each once
  pub each-once : Once (located_keys width_of t own spn)
  each-once = once-only answers (held_keys t) (listed-once t)

  -- "in key order"
  pub key_order : Rising (located_keys width_of t own spn)
  key_order = rising-only answers (held_keys t) (in_order_lem t)

  -- never more than 16
  pub at-most_16 : length (located_keys width_of t own spn) ≤ most_keys
  at-most_16 = omega (arith, few_only answers (held_keys t), walk_few most_keys t (first_key t))

  -- all of bytes
  pub of_bytes : (k : Key) → has k (located_keys width_of t own spn) ≡ true → InBytes k
  of_bytes k e = listed-bytes t k (second (answers k) (has k (held_keys t)) (sym (has-only answers k (held_keys t)) ∙ e))
    where
      second : (a b : Bool) → (a && b) ≡ true → b ≡ true
      second true b q = q
      second false b q = absurd (true≢false (sym q))
