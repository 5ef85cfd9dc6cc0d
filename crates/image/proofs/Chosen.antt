-- Some of a list's keys; and images of keys that have the same maps and editions. Assumes nothing.
use Prim.Native.Nat.{ℕ, zero, suc, ◌+◌, ◌≤◌}
use native.Mathlib.Omega.{arith}
use mathlib.Core.Path.{◌≡◌, refl, sym, ap, ◌∙◌}
use mathlib.Core.Bool.{Bool, true, false, ◌&&◌, or-true, and-false, and-eq-true_iff}
use mathlib.Core.Option.{Option, none, some}
use mathlib.Core.List.{List, [], ◌∷◌, ◌++◌}
use lib.ListN.{length}
use Rattle.words.specs.Runs.{only}
use Rattle.words.proofs.Tests.{test, never}
use Rattle.message.specs.declared.Key.{Key}
use Rattle.maps.specs.Maps.{Map, Nothing, Conflict, Held, is_nothing, same_key}
use Rattle.maps.proofs.Tests.{key_eq, key-refl}
use Rattle.judge.specs.Judge.{usable}
use Rattle.history.specs.History.{most_keys}
use Rattle.history.proofs.Keys.{has, Once}
use Rattle.keyrow.specs.Row.{InBytes}
use Rattle.lookup.specs.View.{map_in, edition_in}
use Rattle.lookup.specs.Next.{first_key, next_key, walk, held_keys, AllAbove, Rising}
use Rattle.learned.proofs.Walk.{in_order_lem, listed-once, listed-bytes, listed-map}
use Rattle.learned.proofs.Rising.{one_list}
use Rattle.open.specs.Open.{width_for}
use Rattle.image.specs.Write.{body_of, row_bytes, behind, rows_of, bodies_of, image_from, is_saved, saved_keys, image_in}

-- ---- some of the keys of a list

module _ (p : Key → Bool) where
  pub only-has : (k : Key) (ks : List Key) → has k (only p ks) ≡ (has k ks && p k)
  only-has k [] = refl
  only-has k (j ∷ ks) =
      test (same_key j k)
      (λ s. let e = key_eq j k s in
      test (p j) (λ t. rw (t, s, ← e, t)) (λ f. rw (f, s, only-has k ks, ← e, f) (test (has j ks) (λ u. rw u) (λ u. rw u))))
      (λ n. test (p j) (λ t. rw (t, n, only-has k ks)) (λ f. rw (f, n, only-has k ks)))

  pub only_all : (ks : List Key) → ((k : Key) → has k ks ≡ true → p k ≡ true) → only p ks ≡ ks
  only_all [] f = refl
  only_all (k ∷ ks) f = rw (f k (rw (key-refl k))) (ap (λ (l : List Key). k ∷ l) (only_all ks (λ j t. f j (rw t (or-true (same_key k j))))))

  pub only-length : (ks : List Key) → length (only p ks) ≤ length ks
  only-length [] = omega arith
  only-length (k ∷ ks) = let ih = only-length ks in test (p k) (λ t. rw t (omega arith)) (λ f. rw f (omega arith))

  only_above : (a : Key) (ks : List Key) → AllAbove a ks → AllAbove a (only p ks)
  only_above a [] u = tt
  only_above a (k ∷ ks) u = test (p k) (λ t. rw t (u.0, only_above a ks u.1)) (λ f. rw f (only_above a ks u.1))

  pub only-rising : (ks : List Key) → Rising ks → Rising (only p ks)
  only-rising [] u = tt
  only-rising (k ∷ ks) u = test (p k) (λ t. rw t (only_above k ks u.0, only-rising ks u.1)) (λ f. rw f (only-rising ks u.1))

  pub only-once : (ks : List Key) → Once ks → Once (only p ks)
  only-once [] u = tt
  only-once (k ∷ ks) u =
      test (p k) (λ t. rw t (rw (only-has k ks, u.0), only-once ks u.1)) (λ f. rw f (only-once ks u.1))

pub walk-length : (n : ℕ) (t : List ℕ) (o : Option Key) → length (walk n t o) ≤ n
unfolding walk
walk-length zero t o = omega arith
walk-length (suc n) t none = omega arith
walk-length (suc n) t (some k) = let ih = walk-length n t (next_key t k) in omega arith

-- ---- the saved keys of a table

something : (width_of : ℕ → ℕ) (M : Map) → usable width_of M ≡ true → is_nothing M ≡ false
something width_of Nothing u = never u refl
something width_of Conflict u = refl
something width_of (Held h places) u = refl

module _ (t : List ℕ) where
  pub saved_rising : Rising (saved_keys t)
  saved_rising = only-rising (is_saved t) (held_keys t) (in_order_lem t)

  pub saved_once : Once (saved_keys t)
  saved_once = only-once (is_saved t) (held_keys t) (listed-once t)

  pub few_saved : length (saved_keys t) ≤ most_keys
  few_saved = omega (arith, only-length (is_saved t) (held_keys t), walk-length most_keys t (first_key t))

  -- a saved key is held, and its map is usable
  both : (k : Key) → has k (saved_keys t) ≡ true → (has k (held_keys t) ≡ true) × (is_saved t k ≡ true)
  both k e = (and-eq-true_iff (has k (held_keys t)) _).0 (sym (only-has (is_saved t) k (held_keys t)) ∙ e)

  pub saved_usable : (k : Key) → has k (saved_keys t) ≡ true → usable (width_for t k) (map_in t k) ≡ true
  saved_usable k e = (both k e).1

  pub saved_bytes : (k : Key) → has k (saved_keys t) ≡ true → InBytes k
  saved_bytes k e = listed-bytes t k (both k e).0

  pub saved_something : (k : Key) → has k (saved_keys t) ≡ true → is_nothing (map_in t k) ≡ false
  saved_something k e = something (width_for t k) (map_in t k) (saved_usable k e)

  -- "one row per usable key": exactly these are saved
  pub saved_when : (k : Key) → InBytes k → has k (saved_keys t) ≡ is_saved t k
  saved_when k b =
      only-has (is_saved t) k (held_keys t)
      ∙ test (is_saved t k)
      (λ u. rw (u, listed-map t k b, something (width_for t k) (map_in t k) u)) (λ n. rw n (and-false (has k (held_keys t))))

-- ---- images of keys with the same maps and editions

module _ (form : ℕ) (d e : Key → ℕ) (f g : Key → Map) where
  rows_same : (ks : List Key) → ((k : Key) → has k ks ≡ true → d k ≡ e k) → ((k : Key) → has k ks ≡ true → f k ≡ g k) → (at : ℕ) → rows_of form d f at ks ≡ rows_of form e g at ks
  unfolding rows_of
  rows_same [] v u at = refl
  rows_same (k ∷ ks) v u at =
      rw (v k (rw (key-refl k)), u k (rw (key-refl k)))
      (ap (λ (l : List ℕ). row_bytes form k (e k) at (length (body_of (g k))) ++ l)
      (rows_same ks (λ j t. v j (rw t (or-true (same_key k j)))) (λ j t. u j (rw t (or-true (same_key k j)))) (at + length (body_of (g k)))))

  bodies_same : (ks : List Key) → ((k : Key) → has k ks ≡ true → f k ≡ g k) → bodies_of f ks ≡ bodies_of g ks
  unfolding bodies_of
  bodies_same [] u = refl
  bodies_same (k ∷ ks) u = rw (u k (rw (key-refl k))) (ap (λ (l : List ℕ). body_of (g k) ++ l) (bodies_same ks (λ j t. u j (rw t (or-true (same_key k j))))))

  pub image_same : (ks : List Key) → ((k : Key) → has k ks ≡ true → d k ≡ e k) → ((k : Key) → has k ks ≡ true → f k ≡ g k) → image_from form d f ks ≡ image_from form e g ks
  unfolding image_from
  image_same ks v u = rw (rows_same ks v u (behind form (length ks)), bodies_same ks u)

-- "one table has one image": two tables with the same usable keys and the same maps and editions of these give the same bytes, whatever else they hold, and in whatever order
-- they learned it
pub one_image : (form : ℕ) (t u : List ℕ) → ((k : Key) → InBytes k → is_saved t k ≡ is_saved u k)
    → ((k : Key) → InBytes k → is_saved t k ≡ true → (map_in t k ≡ map_in u k) × (edition_in t k ≡ edition_in u k)) → image_in form t ≡ image_in form u
unfolding image_in
one_image form t u keys same =
    image_same form (edition_in t) (edition_in u) (map_in t) (map_in u) (saved_keys t)
    (λ k e. (same k (saved_bytes t k e) (saved_usable t k e)).1) (λ k e. (same k (saved_bytes t k e) (saved_usable t k e)).0)
    ∙ ap (image_from form (edition_in u) (map_in u)) (one_list (saved_keys t) (saved_keys u) (saved_rising t) (saved_rising u) one)
  where
    by_bytes : (k : Key) → InBytes k → has k (saved_keys t) ≡ has k (saved_keys u)
    by_bytes k b = saved_when t k b ∙ keys k b ∙ sym (saved_when u k b)

    one : (k : Key) → has k (saved_keys t) ≡ has k (saved_keys u)
    one k =
        test (has k (saved_keys t)) (λ e. by_bytes k (saved_bytes t k e))
        (λ f. test (has k (saved_keys u)) (λ e. by_bytes k (saved_bytes u k e)) (λ g. f ∙ sym g))
