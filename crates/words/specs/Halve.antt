-- Halving: the place from which on a test holds, found in few turns. Where the test rises (once it holds it goes on holding) it is the place that
-- `first` finds (proofs/Halve.antt).
-- Assumes nothing.
use Rattle.std.specs.Prelude.{Bool, cond, ℕ, zero, suc, ◌-◌, ◌/◌, ◌^◌, leb}
use Rattle.words.specs.First.{first}

-- how many turns halve n places, rounded up, until one is left: the least k with n at most 2^k
unfoldable pub turns : ℕ → ℕ
turns n = first (λ k. leb n (2 ^ k)) n

-- k turns over the n places that end with hi. A turn asks the test once, at the place n / 2 below hi, and goes down to it if it holds there
unfoldable pub narrowed : ℕ → (ℕ → Bool) → ℕ → ℕ → ℕ
narrowed zero p hi n = hi
narrowed (suc k) p hi n = narrowed k p (hi - cond (p (hi - n / 2)) (n / 2) 0) (n - n / 2)

-- the place that halving comes to among the first n: the first that holds, or the last of all where none does
unfoldable pub halved : (ℕ → Bool) → ℕ → ℕ
halved p n = narrowed (turns n) p (n - 1) n
