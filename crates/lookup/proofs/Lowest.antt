-- The lowest held key from a number on: what one pass over the rows finds is the lowest of all. On any words. Assumes nothing.
use Prim.Native.Nat.{ℕ, zero, suc, ◌+◌, ◌*◌, ◌≤◌, ◌<◌}
use native.Mathlib.Numerals.{add-one}
use native.Mathlib.Omega.{arith}
use native.Mathlib.Decide.{dec_lt, ℕ_discrete}
use mathlib.Core.Path.{◌≡◌, refl, sym, ◌∙◌}
use mathlib.Core.Bool.{Bool, true, false, cond, not, ◌&&◌, and-eq-true_iff}
use mathlib.Core.List.{List}
use borrow.Author.Tests.{eqb-false, ne_eqb, not-true, leb-true, le-leb, ltb-true, ltb-false, lt-ltb}
use lib.Dec.{eqb, leb, ltb, lit<}
use lib.ListN.{length, get_or}
use Rattle.words.specs.First.{first}
use Rattle.words.proofs.First.{first-at, first_none}
use Rattle.words.proofs.Tests.{test}
use Rattle.history.specs.History.{most_keys}
use Rattle.lookup.specs.Layout.{table_words, row_of, slot_of}
use Rattle.keyrow.specs.Row.{row_words, key_numbers, state_word, key_word}
use Rattle.lookup.specs.Next.{holds_key, lowest_from}
use Rattle.lookup.proofs.Words.{row-state, row_word}
use Rattle.keyrow.proofs.RowKeys.{is_held, held-is}
use Rattle.lookup.proofs.Slots.{is_at, found}

-- the better of row i and the best so far
abbrev nearest : List ℕ → ℕ → ℕ → ℕ → ℕ
nearest t from i best =
    cond (not (eqb (state_word (row_of t i)) 0) && leb from (key_word (row_of t i)) && ltb (key_word (row_of t i)) best) (key_word (row_of t i)) best

-- the best of the first n rows
unfoldable pub lowest_to : List ℕ → ℕ → ℕ → ℕ
lowest_to t from zero = key_numbers
lowest_to t from (suc i) = nearest t from i (lowest_to t from i)

-- one row more, by the table's words
pub lowest-more : (t : List ℕ) → length t ≡ table_words → (from i best next : ℕ) → i < most_keys → best ≡ lowest_to t from i
    → next ≡ cond (not (eqb (get_or t (i * row_words) 0) 0) && leb from (get_or t (i * row_words + 1) 0) && ltb (get_or t (i * row_words + 1) 0) best) (get_or t (i * row_words + 1) 0) best
    → next ≡ lowest_to t from (i + 1)
unfolding lowest_to
lowest-more t long from i best next h e q = rw (add-one, ← e, row-state t long i h, row_word t long i 1 h (lit< tt)) q

module _ (t : List ℕ) (from : ℕ) where
  -- row j counts, and its key is `key`
  pub record Counts (j key : ℕ) : Type 0 where
    pub used : state_word (row_of t j) ≡ 0 → ⊥
    pub word : key_word (row_of t j) ≡ key
    pub above : from ≤ key

  -- what the best of row i and `best` is
  module _ (i best : ℕ) where
    abbrev better : Bool
    better = not (eqb (state_word (row_of t i)) 0) && leb from (key_word (row_of t i)) && ltb (key_word (row_of t i)) best

    taken : better ≡ true → Counts i (key_word (row_of t i)) × (key_word (row_of t i) < best)
    taken e =
        let (ab, b) = (and-eq-true_iff (not (eqb (state_word (row_of t i)) 0) && leb from (key_word (row_of t i))) _).0 e in
        let (u, a) = (and-eq-true_iff (not (eqb (state_word (row_of t i)) 0)) _).0 ab in
        (record { used = eqb-false _ 0 (not-true _ u); word = refl; above = leb-true from _ a }, ltb-true _ best b)

    left : better ≡ false → (key : ℕ) → Counts i key → best ≤ key
    left e key c =
        let o : from ≤ key_word (row_of t i) = omega (arith, c.word, c.above) in
        let f : ltb (key_word (row_of t i)) best ≡ false = rw (ne_eqb (state_word (row_of t i)) 0 c.used, le-leb from (key_word (row_of t i)) o) at e in
        omega (arith, c.word, ltb-false (key_word (row_of t i)) best f)

  -- the best of the first n rows is at most the key of each of them that counts
  least : (n j key : ℕ) → j < n → Counts j key → lowest_to t from n ≤ key
  unfolding lowest_to
  least zero j key l c = absurd (omega arith)
  least (suc n) j key l c = go (ℕ_discrete j n) (least n j key)
    where
      best : ℕ
      best = lowest_to t from n

      go : Dec (j ≡ n) → (j < n → Counts j key → best ≤ key) → nearest t from n best ≤ key
      go (yes e) ih =
          let d : Counts n key = rw e at c in
          test (better n best) (λ b. rw b (omega (arith, d.word))) (λ b. rw b (left n best b key d))
      go (no ne) ih =
          let o : best ≤ key = ih (omega arith) c in
          test (better n best) (λ b. rw b (omega (arith, (taken n best b).1))) (λ b. rw b o)

  -- and is the key of one of them, or 2^24
  one_of : (n : ℕ) → lowest_to t from n < key_numbers → (j : ℕ) × (j < n) × Counts j (lowest_to t from n)
  unfolding lowest_to
  one_of zero h = absurd (omega arith)
  one_of (suc n) h =
      test (better n (lowest_to t from n))
      (λ b. rw b (n, omega arith, (taken n (lowest_to t from n) b).0))
      (λ b. rw b (let (j, l, c) = one_of n (rw b at h) in (j, omega arith, c)))

  lowest-at-most : (n : ℕ) → lowest_to t from n ≤ key_numbers
  unfolding lowest_to
  lowest-at-most zero = omega arith
  lowest-at-most (suc n) =
      let ih = lowest-at-most n in
      test (better n (lowest_to t from n)) (λ b. rw b (omega (arith, (taken n (lowest_to t from n) b).1))) (λ b. rw b ih)

  -- a held key, from `from` on, is one whose row counts
  counts : (key : ℕ) → (leb from key && holds_key t key) ≡ true → Counts (slot_of t key) key × (slot_of t key < most_keys)
  counts key e =
      let (a, h) = (and-eq-true_iff (leb from key) _).0 e in
      let l = ltb-true (slot_of t key) most_keys h in
      let (u, w) = is_held (row_of t (slot_of t key)) key (is_at t key l) in
      (record { used = u; word = w; above = leb-true from key a }, l)

  pub lowest-is : lowest_to t from most_keys ≡ lowest_from t from
  unfolding lowest_from
  lowest-is = go (dec_lt (lowest_to t from most_keys) key_numbers)
    where
      p : ℕ → Bool
      p = λ key. leb from key && holds_key t key

      none_below : (key : ℕ) → key < lowest_to t from most_keys → (leb from key && holds_key t key) ≡ false
      none_below key l =
          test (leb from key && holds_key t key)
          (λ e. let (c, h) = counts key e in absurd (omega (arith, least most_keys (slot_of t key) key h c)))
          (λ n. n)

      go : Dec (lowest_to t from most_keys < key_numbers) → lowest_to t from most_keys ≡ first (λ key. leb from key && holds_key t key) key_numbers
      go (yes h) =
          let (j, l, c) = one_of most_keys h in
          sym (first-at _ key_numbers (lowest_to t from most_keys) h none_below
          ((and-eq-true_iff (leb from (lowest_to t from most_keys)) _).1
          (le-leb from _ c.above, lt-ltb (slot_of t (lowest_to t from most_keys)) most_keys (found t (lowest_to t from most_keys) j l (held-is (row_of t j) _ c.used c.word)))))
      go (no h) =
          let e : lowest_to t from most_keys ≡ key_numbers = omega (arith, lowest-at-most most_keys) in
          e ∙ sym (first_none _ key_numbers (λ key l. none_below key (omega (arith, e))))
