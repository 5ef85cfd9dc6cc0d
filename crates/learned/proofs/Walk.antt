-- Walking from first_key by next_key lists each held key exactly once, rising by source, destination, k, and ends. On any words. Assumes nothing.
use Prim.Native.Nat.{ℕ, zero, suc, ◌+◌, ◌≤◌, ◌<◌}
use native.Mathlib.Omega.{arith}
use native.Mathlib.Decide.{dec_lt, ℕ_discrete}
use mathlib.Core.Path.{◌≡◌, refl, sym, ap, ◌∙◌}
use mathlib.Core.Bool.{Bool, true, cond, not, ◌&&◌, ◌||◌, and-eq-true_iff, or-true}
use mathlib.Core.List.{List, [], ◌∷◌}
use borrow.Author.Tests.{ne_eqb, leb-true, le-leb, lt-leb, ltb-true, lt-ltb, le-ltb}
use lib.Dec.{eqb, leb}
use Rattle.words.proofs.First.{first_holds, first_below}
use Rattle.message.specs.declared.Key.{Key}
use Rattle.maps.specs.Maps.{same_key, is_nothing}
use Rattle.words.proofs.Tests.{test, never}
use Rattle.maps.proofs.Tests.{key_eq, key-refl}
use Rattle.history.specs.History.{most_keys}
use Rattle.history.proofs.Keys.{has, Once}
use Rattle.lookup.specs.Layout.{row_of, slot_of}
use Rattle.keyrow.specs.Row.{key_number, key_numbers, key_named, state_word, key_word, InBytes}
use Rattle.lookup.specs.View.{map_in}
use Rattle.lookup.specs.Next.{holds_key, lowest_from, key_at, first_key, walk, held_keys, AllAbove, Rising}
use Rattle.keyrow.proofs.RowKeys.{is_held}
use Rattle.learned.proofs.View.{map_at, map_none}
use Rattle.keyrow.proofs.View.{row_something}
use Rattle.lookup.proofs.Slots.{is_at}
use Rattle.learned.proofs.KeyNumbers.{number_back, key_back, below_all, named-bytes, rising}

module _ (t : List ℕ) where
  -- ---- the lowest from a number on

  low_held : (from : ℕ) → lowest_from t from < key_numbers → (from ≤ lowest_from t from) × (holds_key t (lowest_from t from) ≡ true)
  unfolding lowest_from
  low_held from h =
      let (a, b) = (and-eq-true_iff (leb from (lowest_from t from)) _).0 (first_holds (λ key. leb from key && holds_key t key) key_numbers h) in
      (leb-true from _ a, b)

  low_least : (from x : ℕ) → from ≤ x → holds_key t x ≡ true → lowest_from t from ≤ x
  unfolding lowest_from
  low_least from x a h = go (dec_lt x (lowest_from t from))
    where
      go : Dec (x < lowest_from t from) → lowest_from t from ≤ x
      go (yes l) = never ((and-eq-true_iff (leb from x) _).1 (le-leb from x a, h)) (first_below (λ key. leb from key && holds_key t key) key_numbers x l)
      go (no l) = omega arith

  -- ---- n keys from a number on

  abbrev keys_from : ℕ → ℕ → List Key
  keys_from n from = walk n t (key_at (lowest_from t from))

  one_more : (n from : ℕ) → lowest_from t from < key_numbers → keys_from (suc n) from ≡ key_named (lowest_from t from) ∷ keys_from n (lowest_from t from + 1)
  unfolding walk
  one_more n from h = rw (lt-ltb (lowest_from t from) key_numbers h, number_back (lowest_from t from))

  no_more : (n from : ℕ) → key_numbers ≤ lowest_from t from → keys_from n from ≡ []
  unfolding walk
  no_more zero from h = refl
  no_more (suc n) from h = rw (le-ltb (lowest_from t from) key_numbers h)

  -- ---- how many rows are still to come

  -- row j is used, with a key from a number on
  abbrev ahead : ℕ → ℕ → Bool
  ahead from j = not (eqb (state_word (row_of t j)) 0) && leb from (key_word (row_of t j))

  unfoldable left : ℕ → ℕ → ℕ
  left from zero = 0
  left from (suc j) = cond (ahead from j) (suc (left from j)) (left from j)

  left_le : (from n : ℕ) → left from n ≤ n
  unfolding left
  left_le from zero = omega arith
  left_le from (suc n) = let ih = left_le from n in test (ahead from n) (λ a. rw a (omega arith)) (λ a. rw a (omega arith))

  still : (from x j : ℕ) → from ≤ x → ahead x j ≡ true → ahead from j ≡ true
  still from x j h e =
      let (u, a) = (and-eq-true_iff (not (eqb (state_word (row_of t j)) 0)) _).0 e in
      (and-eq-true_iff (not (eqb (state_word (row_of t j)) 0)) _).1 (u, le-leb from _ (omega (arith, leb-true x _ a)))

  no_fewer : (from x n : ℕ) → from ≤ x → left x n ≤ left from n
  unfolding left
  no_fewer from x zero h = omega arith
  no_fewer from x (suc n) h =
      let ih = no_fewer from x n h in
      test (ahead x n) (λ a. rw (a, still from x n h a) (omega arith)) (λ a. rw a (test (ahead from n) (λ b. rw b (omega arith)) (λ b. rw b ih)))

  -- once the key of a row is passed, one row less
  one_less : (from x n j : ℕ) → j < n → (state_word (row_of t j) ≡ 0 → ⊥) → key_word (row_of t j) ≡ x → from ≤ x → left (x + 1) n < left from n
  unfolding left
  one_less from x zero j l u w h = absurd (omega arith)
  one_less from x (suc n) j l u w h = go (ℕ_discrete j n) (one_less from x n j)
    where
      go : Dec (j ≡ n) → (j < n → (state_word (row_of t j) ≡ 0 → ⊥) → key_word (row_of t j) ≡ x → from ≤ x → left (x + 1) n < left from n) → left (x + 1) (suc n) < left from (suc n)
      go (yes e) ih =
          rw (← e, ne_eqb (state_word (row_of t j)) 0 u, w, le-leb from x h, lt-leb (x + 1) x (omega arith))
          (omega (arith, no_fewer from (x + 1) j (omega arith)))
      go (no ne) ih =
          let o = ih (omega arith) u w h in
          test (ahead (x + 1) n) (λ a. rw (a, still from (x + 1) n (omega arith) a) (omega arith))
          (λ a. rw a (test (ahead from n) (λ b. rw b (omega arith)) (λ b. rw b o)))

  passed : (from x : ℕ) → from ≤ x → holds_key t x ≡ true → left (x + 1) most_keys < left from most_keys
  passed from x h e =
      let s = ltb-true (slot_of t x) most_keys e in
      let (u, w) = is_held (row_of t (slot_of t x)) x (is_at t x s) in
      one_less from x most_keys (slot_of t x) s u w h

  -- ---- every held key is listed

  complete : (n from : ℕ) → left from most_keys ≤ n → (x : ℕ) → x < key_numbers → from ≤ x → holds_key t x ≡ true → has (key_named x) (keys_from n from) ≡ true
  complete zero from b x l a e = absurd (omega (arith, passed from x a e))
  complete (suc n) from b x l a e =
      let low = low_least from x a e in
      let h : lowest_from t from < key_numbers = omega arith in
      let (o, held) = low_held from h in
      let b' : left (lowest_from t from + 1) most_keys ≤ n = omega (arith, passed from (lowest_from t from) o held) in
      rw (one_more n from h) (go (ℕ_discrete (lowest_from t from) x) (complete n (lowest_from t from + 1) b' x l))
    where
      go : Dec (lowest_from t from ≡ x) → (lowest_from t from + 1 ≤ x → holds_key t x ≡ true → has (key_named x) (keys_from n (lowest_from t from + 1)) ≡ true)
          → (same_key (key_named (lowest_from t from)) (key_named x) || has (key_named x) (keys_from n (lowest_from t from + 1))) ≡ true
      go (yes q) ih = rw (q, key-refl (key_named x))
      go (no ne) ih = rw (ih (omega (arith, low_least from x a e)) e) (or-true (same_key (key_named (lowest_from t from)) (key_named x)))

  -- ---- every key that is listed is held, from the number on

  pub record Listed (from : ℕ) (k : Key) : Type 0 where
    pub bytes : InBytes k
    pub above : from ≤ key_number k
    pub held : holds_key t (key_number k) ≡ true

  first-listed : (from : ℕ) → lowest_from t from < key_numbers → Listed from (key_named (lowest_from t from))
  first-listed from h =
      let (o, held) = low_held from h in
      record { bytes = named-bytes (lowest_from t from) h; above = rw (number_back (lowest_from t from)) o; held = rw (number_back (lowest_from t from)) held }

  listed : (n from : ℕ) (k : Key) → has k (keys_from n from) ≡ true → Listed from k
  unfolding walk
  listed zero from k e = never e refl
  listed (suc n) from k e = go (dec_lt (lowest_from t from) key_numbers) (listed n (lowest_from t from + 1) k)
    where
      go : Dec (lowest_from t from < key_numbers) → (has k (keys_from n (lowest_from t from + 1)) ≡ true → Listed (lowest_from t from + 1) k) → Listed from k
      go (no h) ih = never (ap (has k) (sym (no_more (suc n) from (omega arith))) ∙ e) refl
      go (yes h) ih =
          let f : (same_key (key_named (lowest_from t from)) k || has k (keys_from n (lowest_from t from + 1))) ≡ true = ap (has k) (sym (one_more n from h)) ∙ e in
          test (same_key (key_named (lowest_from t from)) k)
          (λ q. rw (sym (key_eq (key_named (lowest_from t from)) k q)) (first-listed from h))
          (λ n. let l = ih (rw n at f) in record { bytes = l.bytes; above = omega (arith, l.above, (low_held from h).0); held = l.held })

  -- ---- in rising order

  -- the keys from a number on lie above every key below it
  above_all : (n from : ℕ) (k : Key) → InBytes k → key_number k < from → AllAbove k (keys_from n from)
  unfolding walk
  above_all zero from k b l = tt
  above_all (suc n) from k b l = go (dec_lt (lowest_from t from) key_numbers) (above_all n (lowest_from t from + 1) k b)
    where
      go : Dec (lowest_from t from < key_numbers) → (key_number k < lowest_from t from + 1 → AllAbove k (keys_from n (lowest_from t from + 1))) → AllAbove k (keys_from (suc n) from)
      go (no h) ih = rw (no_more (suc n) from (omega arith)) tt
      go (yes h) ih =
          let f = first-listed from h in
          let o = (low_held from h).0 in
          rw (one_more n from h) (rising k (key_named (lowest_from t from)) b f.bytes (omega (arith, f.above)), ih (omega arith))

  rising-from : (n from : ℕ) → Rising (keys_from n from)
  unfolding walk
  rising-from zero from = tt
  rising-from (suc n) from = go (dec_lt (lowest_from t from) key_numbers) (rising-from n (lowest_from t from + 1))
    where
      go : Dec (lowest_from t from < key_numbers) → Rising (keys_from n (lowest_from t from + 1)) → Rising (keys_from (suc n) from)
      go (no h) ih = rw (no_more (suc n) from (omega arith)) tt
      go (yes h) ih =
          rw (one_more n from h)
          (above_all n (lowest_from t from + 1) (key_named (lowest_from t from)) (first-listed from h).bytes (omega (arith, number_back (lowest_from t from))), ih)

  -- ---- the walk

  pub in_order_lem : Rising (held_keys t)
  in_order_lem = rising-from most_keys 0

  -- a key is listed exactly where it is held
  pub listed-held : (k : Key) → InBytes k → has k (held_keys t) ≡ holds_key t (key_number k)
  listed-held k b =
      test (holds_key t (key_number k))
      (λ h. rw h (ap (λ (j : Key). has j (held_keys t)) (sym (key_back k b)) ∙ complete most_keys 0 (left_le 0 most_keys) (key_number k) (below_all k b) (omega arith) h))
      (λ n. rw n (test (has k (held_keys t)) (λ e. never (listed most_keys 0 k e).held n) (λ f. f)))

  -- as many calls as there are used rows give every key, and no further one gives a key more
  ends : (n more from : ℕ) → n ≤ more → left from most_keys ≤ n → keys_from more from ≡ keys_from n from
  ends zero more from l b = go (dec_lt (lowest_from t from) key_numbers)
    where
      go : Dec (lowest_from t from < key_numbers) → keys_from more from ≡ keys_from zero from
      go (no h) = no_more more from (omega arith) ∙ sym (no_more zero from (omega arith))
      go (yes h) = absurd (omega (arith, passed from (lowest_from t from) (low_held from h).0 (low_held from h).1))
  ends (suc n) zero from l b = absurd (omega arith)
  ends (suc n) (suc more) from l b = go (dec_lt (lowest_from t from) key_numbers) (ends n more (lowest_from t from + 1) (omega arith))
    where
      go : Dec (lowest_from t from < key_numbers) → (left (lowest_from t from + 1) most_keys ≤ n → keys_from more (lowest_from t from + 1) ≡ keys_from n (lowest_from t from + 1))
          → keys_from (suc more) from ≡ keys_from (suc n) from
      go (no h) ih = no_more (suc more) from (omega arith) ∙ sym (no_more (suc n) from (omega arith))
      go (yes h) ih =
          one_more more from h
          ∙ ap (λ (ks : List Key). key_named (lowest_from t from) ∷ ks) (ih (omega (arith, passed from (lowest_from t from) (low_held from h).0 (low_held from h).1)))
          ∙ sym (one_more n from h)

  pub walk_ends : (more : ℕ) → most_keys ≤ more → walk more t (first_key t) ≡ held_keys t
  walk_ends more l = ends most_keys more 0 l (left_le 0 most_keys)

  once-from : (n from : ℕ) → Once (keys_from n from)
  unfolding walk
  once-from zero from = tt
  once-from (suc n) from = go (dec_lt (lowest_from t from) key_numbers) (once-from n (lowest_from t from + 1))
    where
      k : Key
      k = key_named (lowest_from t from)

      go : Dec (lowest_from t from < key_numbers) → Once (keys_from n (lowest_from t from + 1)) → Once (keys_from (suc n) from)
      go (no h) ih = rw (no_more (suc n) from (omega arith)) tt
      go (yes h) ih =
          rw (one_more n from h) (
            test (has k (keys_from n (lowest_from t from + 1)))
                (λ e. absurd (omega (arith, (listed n (lowest_from t from + 1) k e).above, number_back (lowest_from t from)))) (λ f. f),
            ih,
          )

  -- each key once
  pub listed-once : Once (held_keys t)
  listed-once = once-from most_keys 0

  -- and only keys of bytes
  pub listed-bytes : (k : Key) → has k (held_keys t) ≡ true → InBytes k
  listed-bytes k e = (listed most_keys 0 k e).bytes

  -- a key is listed exactly where something is held of it
  pub held-map : (k : Key) → holds_key t (key_number k) ≡ not (is_nothing (map_in t k))
  held-map k = go (dec_lt (slot_of t (key_number k)) most_keys)
    where
      go : Dec (slot_of t (key_number k) < most_keys) → holds_key t (key_number k) ≡ not (is_nothing (map_in t k))
      go (yes h) = rw (lt-ltb (slot_of t (key_number k)) most_keys h, map_at t k h, row_something (row_of t (slot_of t (key_number k))))
      go (no h) = rw (le-ltb (slot_of t (key_number k)) most_keys (omega arith), map_none t k (omega arith))

  pub listed-map : (k : Key) → InBytes k → has k (held_keys t) ≡ not (is_nothing (map_in t k))
  listed-map k b = listed-held k b ∙ held-map k
