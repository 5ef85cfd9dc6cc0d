-- Searches from the bottom: every search of this repository is one of these, and is used by its laws (proofs/First.antt).
-- Assumes nothing.
use Rattle.std.specs.Prelude.{Bool, cond, ℕ, zero, suc, ltb}

-- the lowest i below n with p i, or n where there is none
unfoldable pub first : (ℕ → Bool) → ℕ → ℕ
first p zero = zero
first p (suc n) = cond (p zero) zero (suc (first (λ k. p (suc k)) n))

-- whether a number below n passes the test
unfoldable pub any : (ℕ → Bool) → ℕ → Bool
any p n = ltb (first p n) n

-- the lowest position, counted from 1, of the first n that passes the test, or 0; position i + 1 has the index i
unfoldable pub lowest : (ℕ → Bool) → ℕ → ℕ
lowest p n = cond (any p n) (suc (first p n)) 0
