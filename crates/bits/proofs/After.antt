-- Laws of `bit_after`: bits that are laid at places. Assumes nothing.
use mathlib.Core.Path.{◌≡◌, refl, ap}
use Prim.Native.Nat.{ℕ, zero, suc, ◌+◌, ◌<◌}
use native.Mathlib.Nat.{not-suc-le-zero, add-zero, add-suc}
use native.Mathlib.Decide.{ℕ_discrete}
use native.Mathlib.Omega.{arith}
use borrow.Author.Tests.{eq-eqb, ne_eqb}
use lib.Dec.{eqb}
use mathlib.Core.Bool.{cond, or-true, or-false}
use Rattle.bits.specs.Bits.{bit_after}
use Rattle.words.specs.First.{any}
use Rattle.words.proofs.Lowest.{any-zero, any-more}

-- where no bit is laid, nothing changes
pub after-out : (at g : ℕ → ℕ) (k p b : ℕ) → ((i : ℕ) → i < k → p ≡ at i → ⊥) → bit_after at g k p b ≡ b
unfolding bit_after
after-out at g zero p b h = refl
after-out at g (suc k) p b h = rw (ne_eqb p (at k) (h k (omega arith))) (after-out at g k p b (λ i l. h i (omega arith)))

-- at a place stands its bit
pub after-at : (at g : ℕ → ℕ) (k j b : ℕ) → j < k → ((i : ℕ) → i < k → at j ≡ at i → j ≡ i) → bit_after at g k (at j) b ≡ g j
unfolding bit_after
after-at at g zero j b l h = absurd (not-suc-le-zero l)
after-at at g (suc k) j b l h =
    elim (ℕ_discrete j k) [
      | yes e ↦ rw (eq-eqb (at j) (at k) (ap at e), e)
      | no n ↦ rw (ne_eqb (at j) (at k) (λ q. n (h k (omega arith) q)))
          (after-at at g k j b (omega arith) (λ i m. h i (omega arith)))
    ]

-- what holds of each bit that is laid and of the bit before, holds after
pub after_all : (P : ℕ → Type 0) (at g : ℕ → ℕ) (k p b : ℕ) → ((i : ℕ) → i < k → p ≡ at i → P (g i)) → P b → P (bit_after at g k p b)
unfolding bit_after
after_all P at g zero p b h q = q
after_all P at g (suc k) p b h q =
    elim (ℕ_discrete p (at k)) [
      | yes e ↦ rw (eq-eqb p (at k) e) (h k (omega arith) e)
      | no n ↦ rw (ne_eqb p (at k) n) (after_all P at g k p b (λ i l. h i (omega arith)) q)
    ]

-- where every bit laid at p is x, p becomes x if a bit is laid there at all
pub after_one : (at g : ℕ → ℕ) (k p b x : ℕ) → ((i : ℕ) → i < k → p ≡ at i → g i ≡ x)
    → bit_after at g k p b ≡ cond (any (λ i. eqb p (at i)) k) x b
unfolding bit_after
after_one at g zero p b x h = rw any-zero
after_one at g (suc k) p b x h =
    elim (ℕ_discrete p (at k)) [
      | yes e ↦ rw (any-more, eq-eqb p (at k) e, or-true (any (λ i. eqb p (at i)) k)) (h k (omega arith) e)
      | no n ↦ rw (any-more, ne_eqb p (at k) n, or-false (any (λ i. eqb p (at i)) k)) (after_one at g k p b x (λ i l. h i (omega arith)))
    ]

-- the same bits at the same places
pub after_same : (at g at' g' : ℕ → ℕ) (k p b : ℕ) → ((i : ℕ) → i < k → at i ≡ at' i) → ((i : ℕ) → i < k → g i ≡ g' i)
    → bit_after at g k p b ≡ bit_after at' g' k p b
unfolding bit_after
after_same at g at' g' zero p b h l = refl
after_same at g at' g' (suc k) p b h l =
    let x = h k (omega arith) in
    let y = l k (omega arith) in
    let z = after_same at g at' g' k p b (λ i m. h i (omega arith)) (λ i m. l i (omega arith)) in
    λ t. cond (eqb p (x t)) (y t) (z t)

-- n bits, and m more behind them
pub after-add : (at g : ℕ → ℕ) (n m p b : ℕ) → bit_after at g (n + m) p b ≡ bit_after (λ i. at (n + i)) (λ i. g (n + i)) m p (bit_after at g n p b)
unfolding bit_after
after-add at g n zero p b = rw add-zero
after-add at g n (suc m) p b = rw (add-suc, ← after-add at g n m p b)
