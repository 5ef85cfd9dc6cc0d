-- A table of n slots, as the function that gives the row of each slot, in which a key is held by the lowest row that `is` it.
-- Once for every table of the repository, however its rows lie in memory. Assumes nothing.
use Rattle.std.specs.Prelude.{◌≡◌, Bool, true, cond, ℕ, ◌<◌, ltb}
use Rattle.std.proofs.Math.Option.{Option, none, some}
use Rattle.words.specs.First.{first}

-- g is f with r in slot i
pub record Put {R : Type 0} (n : ℕ) (f g : ℕ → R) (i : ℕ) (r : R) : Type 0 where
  pub inside : i < n
  pub at : g i ≡ r
  pub off : (k : ℕ) → k < n → (k ≡ i → ⊥) → g k ≡ f k

module _ {R : Type 0} (is : R → ℕ → Bool) (n : ℕ) where
  -- the lowest slot with the key, or n
  abbrev pub slot : (ℕ → R) → ℕ → ℕ
  slot f key = first (λ k. is (f k) key) n

  -- the row of the lowest slot with the key, if there is one
  unfoldable pub view : (ℕ → R) → ℕ → Option R
  view f key = cond (ltb (slot f key) n) (some (f (slot f key))) none

  -- no key is held twice
  unfoldable pub Distinct : (ℕ → R) → Type 0
  Distinct f = (a j k : ℕ) → j < n → k < n → is (f j) a ≡ true → is (f k) a ≡ true → j ≡ k
