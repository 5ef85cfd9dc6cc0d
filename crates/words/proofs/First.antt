-- The laws of a search (specs/First.antt). Assumes nothing.
use mathlib.Core.Path.{◌≡◌, refl, ap}
use mathlib.Core.Bool.{Bool, true, false, cond}
use Prim.Native.Nat.{ℕ, zero, suc, ◌≤◌, ◌<◌, zero-le, suc-le-suc}
use native.Mathlib.Nat.{not-suc-le-zero, le_of_suc-le-suc}
use Rattle.words.specs.First.{first}

-- a search that stops at i
pub first-at : (p : ℕ → Bool) (n i : ℕ) → i < n → ((k : ℕ) → k < i → p k ≡ false) → p i ≡ true → first p n ≡ i
unfolding first
first-at p zero i h b t = absurd (not-suc-le-zero h)
first-at p (suc n) zero h b t = rw t
first-at p (suc n) (suc i) h b t =
    rw (b zero (suc-le-suc zero-le))
    (ap suc (first-at (λ k. p (suc k)) n i (le_of_suc-le-suc h) (λ k l. b (suc k) (suc-le-suc l)) t))

-- a search that finds nothing
pub first_none : (p : ℕ → Bool) (n : ℕ) → ((k : ℕ) → k < n → p k ≡ false) → first p n ≡ n
unfolding first
first_none p zero b = refl
first_none p (suc n) b = rw (b zero (suc-le-suc zero-le)) (ap suc (first_none (λ k. p (suc k)) n (λ k l. b (suc k) (suc-le-suc l))))

-- what is found is at most the bound
pub first_le : (p : ℕ → Bool) (n : ℕ) → first p n ≤ n
unfolding first
first_le p zero = zero-le
first_le p (suc n) = go (p zero) (first_le (λ k. p (suc k)) n)
  where
    go : (t : Bool) → first (λ k. p (suc k)) n ≤ n → cond t zero (suc (first (λ k. p (suc k)) n)) ≤ suc n
    go true l = zero-le
    go false l = suc-le-suc l

-- what is found passes the test
pub first_holds : (p : ℕ → Bool) (n : ℕ) → first p n < n → p (first p n) ≡ true
unfolding first
first_holds p zero h = absurd (not-suc-le-zero h)
first_holds p (suc n) h = go (p zero) refl (first_holds (λ k. p (suc k)) n) h
  where
    go : (t : Bool) → p zero ≡ t → (first (λ k. p (suc k)) n < n → p (suc (first (λ k. p (suc k)) n)) ≡ true)
        → cond t zero (suc (first (λ k. p (suc k)) n)) < suc n → p (cond t zero (suc (first (λ k. p (suc k)) n))) ≡ true
    go true e ih l = e
    go false e ih l = ih (le_of_suc-le-suc l)

-- two tests that agree below n find the same
pub first-same : (p q : ℕ → Bool) (n : ℕ) → ((k : ℕ) → k < n → p k ≡ q k) → first p n ≡ first q n
unfolding first
first-same p q zero e = refl
first-same p q (suc n) e =
    rw (e zero (suc-le-suc zero-le))
    (ap (λ (m : ℕ). cond (q zero) zero (suc m)) (first-same (λ k. p (suc k)) (λ k. q (suc k)) n (λ k l. e (suc k) (suc-le-suc l))))

-- what lies below does not pass
pub first_below : (p : ℕ → Bool) (n k : ℕ) → k < first p n → p k ≡ false
unfolding first
first_below p zero k h = absurd (not-suc-le-zero h)
first_below p (suc n) zero h = go (p zero) h
  where
    go : (t : Bool) → zero < cond t zero (suc (first (λ j. p (suc j)) n)) → t ≡ false
    go true l = absurd (not-suc-le-zero l)
    go false l = refl
first_below p (suc n) (suc k) h = go (p zero) (first_below (λ j. p (suc j)) n k) h
  where
    go : (t : Bool) → (k < first (λ j. p (suc j)) n → p (suc k) ≡ false) → suc k < cond t zero (suc (first (λ j. p (suc j)) n)) → p (suc k) ≡ false
    go true ih l = absurd (not-suc-le-zero l)
    go false ih l = ih (le_of_suc-le-suc l)
