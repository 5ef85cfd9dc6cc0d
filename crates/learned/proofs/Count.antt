-- The keys of the rows that are not free: each key that is held, once; and all 16 rows are used exactly where no row is free. Assumes nothing.
use Prim.Native.Nat.{ℕ, zero, suc, ◌≤◌, ◌<◌}
use native.Mathlib.Omega.{arith}
use native.Mathlib.Decide.{dec_lt, ℕ_discrete}
use mathlib.Core.Path.{◌≡◌, refl, sym, ap, ◌∙◌}
use mathlib.Core.Bool.{Bool, true, false, cond, not, or-true}
use mathlib.Core.List.{List}
use borrow.Author.Tests.{eqb-false, eq-eqb, ne_eqb, le-leb, lt-leb}
use lib.Dec.{eqb, leb}
use lib.ListN.{length}
use Rattle.words.specs.Slots.{Distinct}
use Rattle.words.proofs.First.{first_below}
use Rattle.message.specs.declared.Key.{Key}
use Rattle.maps.specs.Maps.{same_key, Nothing, is_nothing}
use Rattle.words.proofs.Tests.{test, never}
use Rattle.maps.proofs.Tests.{key_eq, key-refl}
use Rattle.history.specs.History.{most_keys}
use Rattle.history.specs.Table.{Table}
use Rattle.history.proofs.Keys.{has, Once, same_count}
use Rattle.history.proofs.Follows.{Sound}
use Rattle.lookup.specs.Layout.{row_of, slot_of, free_slot}
use Rattle.keyrow.specs.Row.{key_number, key_named, state_word, key_word, row_is, InBytes}
use Rattle.lookup.specs.View.{map_in, keys_to, key_count}
use Rattle.lookup.specs.Next.{held_keys}
use Rattle.keyrow.proofs.RowKeys.{is_held, held-is}
use Rattle.learned.proofs.View.{map_at, map_none}
use Rattle.keyrow.proofs.View.{row_something}
use Rattle.lookup.proofs.Slots.{is_at, free-at, found}
use Rattle.learned.proofs.KeyNumbers.{number_back, key_back, named-bytes, in_bytes, bytes_yes, yes_bytes}
use Rattle.learned.proofs.Walk.{listed-map, listed-once, listed-bytes}
use Rattle.learned.proofs.Sane.{Sane}

-- ---- the rows that are not free

module _ (t : List ℕ) where
  abbrev free_row_at : ℕ → Bool
  free_row_at i = eqb (state_word (row_of t i)) 0

  pub count_le : (n : ℕ) → length (keys_to t n) ≤ n
  unfolding keys_to
  count_le zero = omega arith
  count_le (suc n) = let ih = count_le n in test (free_row_at n) (λ e. rw e (omega arith)) (λ u. rw u (omega arith))

  count_all : (n : ℕ) → ((i : ℕ) → i < n → free_row_at i ≡ false) → length (keys_to t n) ≡ n
  unfolding keys_to
  count_all zero u = refl
  count_all (suc n) u = rw (u n (omega arith)) (ap suc (count_all n (λ i h. u i (omega arith))))

  count_some : (n i : ℕ) → i < n → free_row_at i ≡ true → length (keys_to t n) < n
  unfolding keys_to
  count_some zero i h e = absurd (omega arith)
  count_some (suc n) i h e = go (ℕ_discrete i n) (count_some n i)
    where
      go : Dec (i ≡ n) → (i < n → free_row_at i ≡ true → length (keys_to t n) < n) → length (keys_to t (suc n)) < suc n
      go (yes q) ih = rw (← q, e) (omega (arith, count_le i, q))
      go (no ne) ih = let o = ih (omega arith) e in test (free_row_at n) (λ f. rw f (omega arith)) (λ u. rw u (omega arith))

  -- every row is used exactly where none is free
  pub all_used : most_keys ≤ free_slot t → leb most_keys (key_count t) ≡ true
  unfolding free_slot
  all_used h =
      le-leb most_keys (key_count t)
      (omega (arith, count_all most_keys (λ i l. first_below (λ k. eqb (state_word (row_of t k)) 0) most_keys i (omega arith))))

  pub some_free : free_slot t < most_keys → leb most_keys (key_count t) ≡ false
  some_free h = lt-leb most_keys (key_count t) (count_some most_keys (free_slot t) h (eq-eqb _ 0 (free-at t h)))

  -- ---- the keys that are listed

  -- row j is used, and its key is k
  pub record Holds (j : ℕ) (k : Key) : Type 0 where
    pub used : state_word (row_of t j) ≡ 0 → ⊥
    pub key : key_named (key_word (row_of t j)) ≡ k

  holds-is : (j : ℕ) (k : Key) → Holds j k → row_is (row_of t j) (key_number k) ≡ true
  holds-is j k h = held-is (row_of t j) (key_number k) h.used (sym (number_back (key_word (row_of t j))) ∙ ap key_number h.key)

  listed_at : (k : Key) (n : ℕ) → has k (keys_to t n) ≡ true → (j : ℕ) × (j < n) × Holds j k
  unfolding keys_to
  listed_at k zero e = never e refl
  listed_at k (suc n) e =
      test (free_row_at n) (λ f. let (j, l, h) = listed_at k n (rw f at e) in (j, omega arith, h))
      (λ u. test (same_key (key_named (key_word (row_of t n))) k)
      (λ q. (n, omega arith, record { used = eqb-false _ 0 u; key = key_eq _ k q }))
      (λ nq. let (j, l, h) = listed_at k n (rw (u, nq) at e) in (j, omega arith, h)))

  at_listed : (k : Key) (n j : ℕ) → j < n → Holds j k → has k (keys_to t n) ≡ true
  unfolding keys_to
  at_listed k zero j l h = absurd (omega arith)
  at_listed k (suc n) j l h = go (ℕ_discrete j n) (at_listed k n j)
    where
      go : Dec (j ≡ n) → (j < n → Holds j k → has k (keys_to t n) ≡ true) → has k (keys_to t (suc n)) ≡ true
      go (yes e) ih =
          let g : Holds n k = rw e at h in
          rw (ne_eqb (state_word (row_of t n)) 0 g.used, g.key, key-refl k)
      go (no ne) ih =
          let o = ih (omega arith) h in
          test (free_row_at n) (λ f. rw f o) (λ u. rw (u, o) (or-true (same_key (key_named (key_word (row_of t n))) k)))

-- ---- the words of a run, as a table in the sense of the history: of each key that a call can name what is held, and how many are

abbrev pub table_of : List ℕ → Table
table_of t = record { look = λ k. cond (in_bytes k) (map_in t k) Nothing; count = key_count t }

module _ (t : List ℕ) (s : Sane t) where
  once-to : (n : ℕ) → n ≤ most_keys → Once (keys_to t n)
  unfolding keys_to Distinct
  once-to zero h = tt
  once-to (suc n) h =
      test (eqb (state_word (row_of t n)) 0) (λ f. rw f (once-to n (omega arith)))
      (λ u. rw u (test (has (key_named (key_word (row_of t n))) (keys_to t n)) (twice u) (λ f. f), once-to n (omega arith)))
    where
      twice : eqb (state_word (row_of t n)) 0 ≡ false → has (key_named (key_word (row_of t n))) (keys_to t n) ≡ true → has (key_named (key_word (row_of t n))) (keys_to t n) ≡ false
      twice u e =
          let (j, l, g) = listed_at t (key_named (key_word (row_of t n))) n e in
          let same = s.apart (key_number (key_named (key_word (row_of t n)))) j n (omega arith) (omega arith) (holds-is t j _ g) (holds-is t n _ (record { used = eqb-false _ 0 u; key = refl })) in
          absurd (omega (arith, same))

  -- a key is listed exactly where it is held
  named : (k : Key) → has k (keys_to t most_keys) ≡ not (is_nothing ((table_of t).look k))
  named k = test (in_bytes k) (λ b. rw b (carried (bytes_yes k b) (dec_lt (slot_of t (key_number k)) most_keys))) (λ n. rw n (test (has k (keys_to t most_keys)) (λ e. never (outside e) n) (λ f. f)))
    where
      outside : has k (keys_to t most_keys) ≡ true → in_bytes k ≡ true
      outside e =
          let (j, l, h) = listed_at t k most_keys e in
          rw (sym h.key) (yes_bytes (key_named (key_word (row_of t j))) (named-bytes (key_word (row_of t j)) (s.small j l h.used)))

      carried : InBytes k → Dec (slot_of t (key_number k) < most_keys) → has k (keys_to t most_keys) ≡ not (is_nothing (map_in t k))
      carried b (yes h) =
          let (u, w) = is_held (row_of t (slot_of t (key_number k))) (key_number k) (is_at t (key_number k) h) in
          at_listed t k most_keys (slot_of t (key_number k)) h (record { used = u; key = ap key_named w ∙ key_back k b })
          ∙ rw (map_at t k h, row_something (row_of t (slot_of t (key_number k))))
      carried b (no h) =
          rw (map_none t k (omega arith))
          (test (has k (keys_to t most_keys))
          (λ e. let (j, l, g) = listed_at t k most_keys e in absurd (h (found t (key_number k) j l (holds-is t j k g))))
          (λ f. f))

  pub sound : Sound (table_of t)
  sound = record { listed = keys_to t most_keys; once = once-to most_keys (omega arith); named = named; counted = refl }

  -- the walk in rising order lists as many keys as rows are used
  pub walk-count : length (held_keys t) ≡ key_count t
  walk-count = same_count (held_keys t) (keys_to t most_keys) (listed-once t) (once-to most_keys (omega arith)) same
    where
      same : (k : Key) → has k (held_keys t) ≡ has k (keys_to t most_keys)
      same k =
          rw (named k)
          (test (in_bytes k) (λ b. rw b (listed-map t k (bytes_yes k b)))
          (λ n. rw n (test (has k (held_keys t)) (λ e. never (yes_bytes k (listed-bytes t k e)) n) (λ f. f))))
