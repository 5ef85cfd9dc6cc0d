-- How many pairs have a session: as many as rows are held. So a request finds a place exactly where its pair has a session or fewer than eight pairs have one.
-- Assumes nothing.
use Prim.Native.Nat.{ℕ, zero, suc, ◌+◌, ◌-◌, ◌≤◌, ◌<◌}
use native.Mathlib.Omega.{arith}
use native.Mathlib.Decide.{dec_lt, ℕ_discrete}
use mathlib.Core.Path.{◌≡◌, refl, sym, ap, ◌∙◌}
use mathlib.Core.Bool.{Bool, true, false, cond, ◌&&◌, and-true, and-false, or-true, or-false, and-eq-true_iff}
use mathlib.Core.Option.{none}
use mathlib.Core.List.{List, [], ◌∷◌}
use borrow.Author.Tests.{ltb-true, eqb-true, eqb-false, lt-ltb, le-ltb, le-leb, lt-leb, eq-eqb, ne_eqb}
use lib.Dec.{eqb, ltb, leb}
use lib.ListN.{length}
use Rattle.words.specs.First.{any}
use Rattle.words.specs.Rising.{has, starts_above, rising, insert}
use Rattle.words.specs.Runs.{only}
use Rattle.words.specs.Slots.{slot, view}
use Rattle.words.proofs.First.{first_holds, first_below}
use Rattle.words.proofs.Lowest.{neither, any-zero, any_none, any-more}
use Rattle.words.proofs.Rising.{starts_lower, insert-rising, insert-has, one_list}
use Rattle.words.proofs.Tests.{test}
use Rattle.transport.specs.Rows.{Memory, holder_word, row_of, row_is, row_with, session_of}
use Rattle.transport.specs.Calls.{place_for}
use Rattle.arrivals.specs.Events.{Event, subject, session_by, is_held, named, holders, no_room}
use Rattle.arrivals.proofs.Rows.{held_by_lem, Sane, no_second, session_at, session_none}

-- ---- rising lists of numbers

-- those that pass a test
has-only : (p : ℕ → Bool) (l : List ℕ) (i : ℕ) → has i (only p l) ≡ (p i && has i l)
unfolding has
has-only p [] i = sym (and-false (p i))
has-only p (x ∷ l) i =
    test (p x)
    (λ y. rw (y, has-only p l i) (test (eqb x i) (λ e. rw (e, ← (eqb-true x i e), y)) (λ n. rw n)))
    (λ f. rw (f, has-only p l i) (test (eqb x i) (λ e. rw (e, ← (eqb-true x i e), f)) (λ n. rw n)))

only-starts : (p : ℕ → Bool) (x : ℕ) (l : List ℕ) → rising l ≡ true → starts_above x l ≡ true → starts_above x (only p l) ≡ true
unfolding rising
only-starts p x [] u a = refl
only-starts p x (z ∷ l) u a =
    let (s, v) = (and-eq-true_iff (starts_above z l) _).0 u in
    let ih = only-starts p x l v (starts_lower x z l (ltb-true x z a) s) in
    test (p z) (λ y. rw y a) (λ f. rw f ih)

only-rising : (p : ℕ → Bool) (l : List ℕ) → rising l ≡ true → rising (only p l) ≡ true
unfolding rising
only-rising p [] u = refl
only-rising p (x ∷ l) u =
    let (s, v) = (and-eq-true_iff (starts_above x l) _).0 u in
    let ih = only-rising p l v in
    test (p x) (λ y. rw y ((and-eq-true_iff (starts_above x (only p l)) _).1 (only-starts p x l v s, ih))) (λ f. rw f ih)

-- one number more
length-new : (x : ℕ) (l : List ℕ) → has x l ≡ false → length (insert x l) ≡ suc (length l)
unfolding has insert
length-new x [] e = refl
length-new x (y ∷ l) e =
    let (a, b) = neither (eqb y x) (has x l) e in
    let ih = length-new x l b in
    test (ltb x y) (λ t. rw t) (λ t. rw (t, ne_eqb x y (λ q. eqb-false y x a (sym q))) (ap suc ih))

length_most : (x : ℕ) (l : List ℕ) → length (insert x l) ≤ suc (length l)
unfolding insert
length_most x [] = omega arith
length_most x (y ∷ l) =
    let ih = length_most x l in
    test (ltb x y) (λ t. rw t (omega arith)) (λ t. rw t (test (eqb x y) (λ e. rw e (omega arith)) (λ n. rw n (omega arith))))

-- ---- the pairs that have a session by their events

named-rising : (h : List Event) → rising (named h) ≡ true
unfolding named rising
named-rising [] = refl
named-rising (e ∷ h) = insert-rising (subject e) (named h) (named-rising h)

-- a pair that is not named has none
unnamed : (h : List Event) (pair : ℕ) → has pair (named h) ≡ false → session_by h pair ≡ none
unfolding named
unnamed [] pair f = refl
unnamed (e ∷ h) pair f =
    let (a, b) = neither (eqb (subject e) pair) (has pair (named h)) (sym (insert-has pair (subject e) (named h)) ∙ f) in
    rw a (unnamed h pair b)

-- the holders are the pairs that have one
pub holders_are : (h : List Event) (pair : ℕ) → has pair (holders h) ≡ is_held (session_by h pair)
holders_are h pair =
    has-only (λ q. is_held (session_by h q)) (named h) pair
    ∙ test (has pair (named h)) (λ y. rw y (and-true (is_held (session_by h pair)))) (λ f. rw (f, unnamed h pair f))

-- each once
pub holders_rise : (h : List Event) → rising (holders h) ≡ true
holders_rise h = only-rising (λ q. is_held (session_by h q)) (named h) (named-rising h)

-- ---- the pairs that hold a row

module _ (m : Memory) where
  abbrev holder : ℕ → ℕ
  holder i = holder_word (row_of m i).head

  -- of the first n rows
  unfoldable pairs_to : ℕ → List ℕ
  pairs_to zero = []
  pairs_to (suc i) = cond (eqb (holder i) 0) (pairs_to i) (insert (holder i - 1) (pairs_to i))

  pairs-rising : (n : ℕ) → rising (pairs_to n) ≡ true
  unfolding pairs_to rising
  pairs-rising zero = refl
  pairs-rising (suc i) =
      let ih = pairs-rising i in
      test (eqb (holder i) 0) (λ y. rw y ih) (λ f. rw f (insert-rising (holder i - 1) (pairs_to i) ih))

  -- the pair of a row that is held
  same-pair : (pair w : ℕ) → (w ≡ 0 → ⊥) → eqb (w - 1) pair ≡ eqb w (pair + 1)
  same-pair pair w ne =
      test (eqb w (pair + 1)) (λ y. rw y (eq-eqb (w - 1) pair (omega (arith, eqb-true w (pair + 1) y))))
      (λ f. rw f (ne_eqb (w - 1) pair (λ e. eqb-false w (pair + 1) f (omega (arith, e, ne)))))

  pairs_have : (pair n : ℕ) → has pair (pairs_to n) ≡ any (λ i. row_is (row_of m i) pair) n
  unfolding pairs_to has
  pairs_have pair zero = sym (any-zero (λ i. row_is (row_of m i) pair))
  pairs_have pair (suc i) =
      let ih = pairs_have pair i in
      test (eqb (holder i) 0)
      (λ y.
      let e = eqb-true (holder i) 0 y in
      rw (y, any-more (λ k. row_is (row_of m k) pair) i, ne_eqb (holder i) (pair + 1) (λ q. omega (arith, q, e)), ih) (sym (or-false (any (λ k. row_is (row_of m k) pair) i))))
      (λ f.
      rw (f, insert-has pair (holder i - 1) (pairs_to i), any-more (λ k. row_is (row_of m k) pair) i, same-pair pair (holder i) (eqb-false (holder i) 0 f), ih)
      (test (eqb (holder i) (pair + 1)) (λ y. rw y (sym (or-true (any (λ k. row_is (row_of m k) pair) i)))) (λ n. rw n (sym (or-false (any (λ k. row_is (row_of m k) pair) i))))))

  -- a pair has a session exactly where it holds a row
  held-row : (pair : ℕ) → is_held (session_of m pair) ≡ any (λ i. row_is (row_of m i) pair) 8
  unfolding any view
  held-row pair = test (ltb (slot row_is 8 (row_of m) pair) 8) (λ y. rw y) (λ f. rw f)

  -- ---- how many they are

  count_most : (n : ℕ) → length (pairs_to n) ≤ n
  unfolding pairs_to
  count_most zero = omega arith
  count_most (suc i) =
      let ih = count_most i in
      test (eqb (holder i) 0) (λ y. rw y (omega arith)) (λ f. rw f (omega (arith, length_most (holder i - 1) (pairs_to i))))

  -- one row is nobody's
  count_less : (n i : ℕ) → i < n → holder i ≡ 0 → length (pairs_to n) < n
  unfolding pairs_to
  count_less zero i h e = absurd (omega arith)
  count_less (suc n) i h e =
      let rest : (i < n → length (pairs_to n) < n) = λ l. count_less n i l e in
      elim (ℕ_discrete i n) [
        | yes q ↦ rw (eq-eqb (holder n) 0 (ap holder (sym q) ∙ e)) (omega (arith, count_most n))
        | no q ↦ let less = rest (omega arith) in
            test (eqb (holder n) 0) (λ y. rw y (omega arith)) (λ f. rw f (omega (arith, length_most (holder n - 1) (pairs_to n))))
      ]

  -- every row is some pair's, and no pair has two
  count-full : Sane m → (n : ℕ) → n ≤ 8 → ((i : ℕ) → i < n → holder i ≡ 0 → ⊥) → length (pairs_to n) ≡ n
  unfolding pairs_to
  count-full s zero h u = refl
  count-full s (suc n) h u =
      let taken = u n (omega arith) in
      let ih = count-full s n (omega arith) (λ i l. u i (omega arith)) in
      rw (ne_eqb (holder n) 0 taken) (length-new (holder n - 1) (pairs_to n) (pairs_have (holder n - 1) n ∙ any_none (λ i. row_is (row_of m i) (holder n - 1)) n (alone taken)) ∙ ap suc ih)
    where
      alone : (holder n ≡ 0 → ⊥) → (i : ℕ) → i < n → row_is (row_of m i) (holder n - 1) ≡ false
      alone taken i l = no_second m s (holder n - 1) n (omega arith) (held_by_lem (row_of m n) (holder n - 1) (omega (arith, taken))) i (omega arith) (λ e. omega (arith, e, l))

-- ---- room

module _ (m : Memory) (s : Sane m) where
  full : 8 ≤ row_with m.heads 0 → length (pairs_to m 8) ≡ 8
  unfolding row_with
  full h =
      count-full m s 8 (omega arith)
      (λ i l. eqb-false (holder m i) 0 (first_below (λ k. eqb (holder m k) 0) 8 i (omega arith)))

  not_full : row_with m.heads 0 < 8 → length (pairs_to m 8) < 8
  unfolding row_with
  not_full h = count_less m 8 (row_with m.heads 0) h (eqb-true (holder m (row_with m.heads 0)) 0 (first_holds (λ k. eqb (holder m k) 0) 8 h))

  module _ (h : List Event) (so : (pair : ℕ) → session_of m pair ≡ session_by h pair) where
    -- the pairs that have a session by their events are those that hold a row
    counted : holders h ≡ pairs_to m 8
    counted =
        one_list (holders h) (pairs_to m 8) (holders_rise h) (pairs-rising m 8)
        (λ pair. holders_are h pair ∙ ap is_held (sym (so pair)) ∙ held-row m pair ∙ sym (pairs_have m pair 8))

    pub at_most : length (holders h) ≤ 8
    at_most = omega (arith, ap length counted, count_most m 8)

    -- 30 exactly where the words have no place
    pub no_room_lem : (pair : ℕ) → no_room h pair ≡ leb 8 (place_for m.heads (pair + 1))
    unfolding no_room place_for
    no_room_lem pair =
        elim (dec_lt (row_with m.heads (pair + 1)) 8) [
          | yes l ↦ let Has-one : is_held (session_by h pair) ≡ true = ap is_held (sym (so pair) ∙ session_at m pair l) in
              rw (Has-one, lt-ltb (row_with m.heads (pair + 1)) 8 l) (sym (lt-leb 8 (row_with m.heads (pair + 1)) l))
          | no l ↦ let has-none : is_held (session_by h pair) ≡ false = ap is_held (sym (so pair) ∙ session_none m pair (omega arith)) in
              rw (has-none, le-ltb (row_with m.heads (pair + 1)) 8 (omega arith)) free
        ]
      where
        free : leb 8 (length (holders h)) ≡ leb 8 (row_with m.heads 0)
        free =
            elim (dec_lt (row_with m.heads 0) 8) [
              | yes l ↦ lt-leb 8 (length (holders h)) (omega (arith, ap length counted, not_full l)) ∙ sym (lt-leb 8 (row_with m.heads 0) l)
              | no l ↦ le-leb 8 (length (holders h)) (omega (arith, ap length counted, full (omega arith))) ∙ sym (le-leb 8 (row_with m.heads 0) (omega arith))
            ]
