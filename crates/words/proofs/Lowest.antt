-- The laws of `any` and `lowest`, by those of `first`, and what a loop that looks for the lowest position knows. Assumes nothing.
use mathlib.Core.Path.{◌≡◌, refl, sym, ◌∙◌}
use mathlib.Core.Bool.{Bool, true, false, ◌||◌, false≢true}
use Prim.Native.Nat.{ℕ, suc, ◌+◌, ◌≤◌, ◌<◌}
use native.Mathlib.Nat.{not-suc-le-zero}
use native.Mathlib.Decide.{dec_lt}
use native.Mathlib.Numerals.{add-one}
use native.Mathlib.Omega.{arith}
use borrow.Author.Count.{below_more}
use borrow.Author.Tests.{lt-ltb, le-ltb, ltb-true, ltb-false}
use Rattle.words.specs.First.{first, any, lowest}
use Rattle.words.proofs.First.{first-at, first_none, first_holds, first_below, first-same}
use Rattle.words.proofs.Tests.{test, never}

pub neither : (a b : Bool) → (a || b) ≡ false → (a ≡ false) × (b ≡ false)
neither true b e = absurd (false≢true (sym e))
neither false b e = (refl, e)

module _ (t : ℕ → Bool) where
  -- ---- whether there is one

  pub any_at : (n i : ℕ) → i < n → t i ≡ true → any t n ≡ true
  unfolding any
  any_at n i l e =
      elim (dec_lt (first t n) n) [
        | yes h ↦ lt-ltb (first t n) n h
        | no h ↦ never e (first_below t n i (omega arith))
      ]

  pub any_none : (n : ℕ) → ((i : ℕ) → i < n → t i ≡ false) → any t n ≡ false
  unfolding any
  any_none n h = rw (first_none t n h) (le-ltb n n (omega arith))

  pub any-each : (n : ℕ) → any t n ≡ false → (i : ℕ) → i < n → t i ≡ false
  unfolding any
  any-each n e i l = first_below t n i (omega (arith, ltb-false (first t n) n e))

  pub any-zero : any t 0 ≡ false
  any-zero = any_none 0 (λ i l. absurd (not-suc-le-zero l))

  -- the one that is found
  pub any_found : (n : ℕ) → any t n ≡ true → (first t n < n) × (t (first t n) ≡ true)
  unfolding any
  any_found n e = let l = ltb-true (first t n) n e in (l, first_holds t n l)

  -- one number more
  pub any-more : (n : ℕ) → any t (suc n) ≡ (any t n || t n)
  any-more n =
      test (any t n) (λ y. let (l, p) = any_found n y in rw y (any_at (suc n) (first t n) (omega arith) p))
      (λ y. rw y (test (t n) (λ z. rw z (any_at (suc n) n (omega arith) z)) (λ z. rw z (any_none (suc n) (passed y z)))))
    where
      passed : any t n ≡ false → t n ≡ false → (i : ℕ) → i < suc n → t i ≡ false
      passed y z i l = elim (dec_lt i n) [ yes m ↦ any-each n y i m | no m ↦ let q : i ≡ n = omega arith in rw q z ]

  -- ---- the lowest position that passes

  pub lowest_none : (n : ℕ) → ((i : ℕ) → i < n → t i ≡ false) → lowest t n ≡ 0
  unfolding lowest
  lowest_none n h = rw (any_none n h)

  pub lowest-at : (n i : ℕ) → i < n → ((k : ℕ) → k < i → t k ≡ false) → t i ≡ true → lowest t n ≡ suc i
  unfolding lowest
  lowest-at n i l h e = rw (any_at n i l e, first-at t n i l h e)

  pub lowest-each : (n : ℕ) → lowest t n ≡ 0 → (i : ℕ) → i < n → t i ≡ false
  unfolding lowest
  lowest-each n e = test (any t n) (λ y. let z : suc (first t n) ≡ 0 = rw y at e in absurd (omega arith)) (λ y. any-each n y)

  pub lowest-most : (n : ℕ) → lowest t n ≤ n
  unfolding lowest
  lowest-most n = test (any t n) (λ y. rw y (any_found n y).0) (λ y. rw y (omega arith))

-- tests that are the same below n find the same
module _ (t u : ℕ → Bool) (n : ℕ) (h : (i : ℕ) → i < n → t i ≡ u i) where
  pub any_equal : any t n ≡ any u n
  unfolding any
  any_equal = rw (first-same t u n h)

  pub lowest_equal : lowest t n ≡ lowest u n
  unfolding lowest
  lowest_equal = rw (any_equal, first-same t u n h)

-- two tests that agree wherever the first has passed nothing yet
pub lowest-same : (t u : ℕ → Bool) (n : ℕ) → ((i : ℕ) → i < n → ((k : ℕ) → k < i → t k ≡ false) → t i ≡ u i) → lowest t n ≡ lowest u n
lowest-same t u n h =
    test (any t n)
    (λ y. let (l, p) = any_found t n y in
    lowest-at t n (first t n) l (first_below t n) p
    ∙ sym (lowest-at u n (first t n) l (λ k m. sym (below k (omega arith) (omega arith)) ∙ first_below t n k m) (sym (h (first t n) l (first_below t n)) ∙ p)))
    (λ y. let none = any-each t n y in lowest_none t n none ∙ sym (lowest_none u n (λ i l. sym (h i l (λ k m. none k (omega arith))) ∙ none i l)))
  where
    below : (k : ℕ) → k < n → k ≤ first t n → t k ≡ u k
    below k l m = h k l (λ j q. first_below t n j (omega arith))

-- ---- a loop that looks for the lowest position

-- no index below i passes the test
abbrev pub None : (ℕ → Bool) → ℕ → Type 0
None t i = (k : ℕ) → k < i → t k ≡ false

-- the test at i, as the code answered it, was passed: i + 1 is the lowest position
pub hit : (t : ℕ → Bool) (n i : ℕ) (r : Bool) → i < n → None t i → r ≡ t i → r ≡ true → i + 1 ≡ lowest t n
hit t n i r h passed e y = add-one i ∙ sym (lowest-at t n i h passed (sym e ∙ y))

-- it was not: on to the next
pub turn : (t : ℕ → Bool) (i : ℕ) (r : Bool) → None t i → r ≡ t i → r ≡ false → None t (i + 1)
turn t i r passed e y = below_more (λ (k : ℕ). t k ≡ false) i passed (sym e ∙ y)

-- there is none
pub miss : (t : ℕ → Bool) (n i : ℕ) → n ≤ i → None t i → ◌≡◌ {A = ℕ} 0 (lowest t n)
miss t n i h passed = sym (lowest_none t n (λ k l. passed k (omega arith)))
