-- Laws of `meet`: values in common. Assumes nothing.
use mathlib.Core.Path.{◌≡◌, sym, ap, ap₂, ◌∙◌}
use mathlib.Core.Bool.{true, false, ◌&&◌, ◌||◌}
use Prim.Native.Nat.{ℕ, ◌+◌, ◌-◌, ◌<◌}
use native.Mathlib.Decide.{dec_lt}
use native.Mathlib.Omega.{arith}
use borrow.Author.Tests.{eq-eqb, ne_eqb, eqb-true, eqb-false, lt-ltb, le-ltb}
use lib.Dec.{eqb, ltb}
use Rattle.words.specs.First.{first}
use Rattle.words.proofs.Lowest.{any_at, any_none, any-each, any_found}
use Rattle.words.proofs.Tests.{test}
use Rattle.places.specs.Place.{meet}

module _ (f : ℕ → ℕ) (m : ℕ) (g : ℕ → ℕ) (n : ℕ) where
  pub meet-at : (i j : ℕ) → i < m → j < n → f i ≡ g j → meet f m g n ≡ true
  unfolding meet
  meet-at i j k l e = any_at _ m i k (any_at (λ j. eqb (f i) (g j)) n j l (eq-eqb _ _ e))

  pub meet_none : ((i j : ℕ) → i < m → j < n → f i ≡ g j → ⊥) → meet f m g n ≡ false
  unfolding meet
  meet_none h = any_none _ m (λ i k. any_none _ n (λ j l. ne_eqb (f i) (g j) (h i j k l)))

  pub meet-each : meet f m g n ≡ false → (i j : ℕ) → i < m → j < n → f i ≡ g j → ⊥
  unfolding meet
  meet-each e i j k l = eqb-false (f i) (g j) (any-each (λ j. eqb (f i) (g j)) n (any-each _ m e i k) j l)

  pub meet_found : meet f m g n ≡ true → (i j : ℕ) × (i < m) × (j < n) × (f i ≡ g j)
  unfolding meet
  meet_found e =
      let (k, x) = any_found _ m e in
      let (l, y) = any_found _ n x in
      (first _ m, first _ n, k, l, eqb-true _ _ y)

-- the values in common are the same the other way round
meet_swap : (f : ℕ → ℕ) (m : ℕ) (g : ℕ → ℕ) (n : ℕ) → meet f m g n ≡ meet g n f m
meet_swap f m g n =
    test (meet g n f m) (λ y. let (j, i, l, k, e) = meet_found g n f m y in meet-at f m g n i j k l (sym e) ∙ sym y)
    (λ y. meet_none f m g n (λ i j k l e. meet-each g n f m y j i l k (sym e)) ∙ sym y)

-- values that are those of one list and, behind them, those of another
module _ (g a b : ℕ → ℕ) (k l : ℕ) (front : (j : ℕ) → j < k → g j ≡ a j) (back : (j : ℕ) → j < l → g (k + j) ≡ b j) where
  pub meet_split : (f : ℕ → ℕ) (m : ℕ) → meet f m g (k + l) ≡ (meet f m a k || meet f m b l)
  meet_split f m =
      test (meet f m a k) (λ y. rw y (let (i, j, x, z, e) = meet_found f m a k y in meet-at f m g (k + l) i j x (omega arith) (e ∙ sym (front j z))))
      (λ y. rw y (test (meet f m b l)
      (λ t. rw t (let (i, j, x, z, e) = meet_found f m b l t in meet-at f m g (k + l) i (k + j) x (omega arith) (e ∙ sym (back j z))))
      (λ t. rw t (meet_none f m g (k + l) (λ i j x z e. none y t i j x z e (dec_lt j k))))))
    where
      none : meet f m a k ≡ false → meet f m b l ≡ false → (i j : ℕ) → i < m → j < k + l → f i ≡ g j → Dec (j < k) → ⊥
      none y t i j x z e (yes h) = meet-each f m a k y i j x h (e ∙ front j h)
      none y t i j x z e (no h) =
          let q : k + (j - k) ≡ j = omega arith in
          meet-each f m b l t i (j - k) x (omega arith) (e ∙ sym (ap g q) ∙ back (j - k) (omega arith))

  pub split_meet : (f : ℕ → ℕ) (m : ℕ) → meet g (k + l) f m ≡ (meet a k f m || meet b l f m)
  split_meet f m = meet_swap g (k + l) f m ∙ meet_split f m ∙ ap₂ ◌||◌ (meet_swap f m a k) (meet_swap f m b l)

-- two runs have a value in common: neither is empty, and each starts before the end of the other
pub runs_meet : (a m b n : ℕ) → meet (λ i. a + i) m (λ i. b + i) n ≡ (ltb 0 m && ltb 0 n && ltb a (b + n) && ltb b (a + m))
runs_meet a m b n = go (dec_lt 0 m) (dec_lt 0 n) (dec_lt a (b + n)) (dec_lt b (a + m))
  where
    apart : ((i j : ℕ) → i < m → j < n → a + i ≡ b + j → ⊥) → meet (λ i. a + i) m (λ i. b + i) n ≡ false
    apart = meet_none (λ i. a + i) m (λ i. b + i) n

    go : Dec (0 < m) → Dec (0 < n) → Dec (a < b + n) → Dec (b < a + m)
        → meet (λ i. a + i) m (λ i. b + i) n ≡ (ltb 0 m && ltb 0 n && ltb a (b + n) && ltb b (a + m))
    go (yes h) (yes k) (yes l) (yes q) =
        rw (lt-ltb 0 m h, lt-ltb 0 n k, lt-ltb a (b + n) l, lt-ltb b (a + m) q)
        (meet-at (λ i. a + i) m (λ i. b + i) n (b - a) (a - b) (omega arith) (omega arith) (omega arith))
    go (yes h) (yes k) (yes l) (no q) =
        rw (lt-ltb 0 m h, lt-ltb 0 n k, lt-ltb a (b + n) l, le-ltb b (a + m) (omega arith)) (apart (λ i j x y z. omega arith))
    go (yes h) (yes k) (no l) q = rw (lt-ltb 0 m h, lt-ltb 0 n k, le-ltb a (b + n) (omega arith)) (apart (λ i j x y z. omega arith))
    go (yes h) (no k) l q = rw (lt-ltb 0 m h, le-ltb 0 n (omega arith)) (apart (λ i j x y z. omega arith))
    go (no h) k l q = rw (le-ltb 0 m (omega arith)) (apart (λ i j x y z. omega arith))
