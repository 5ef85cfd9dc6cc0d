-- The laws of a table of slots: what a row that is put does to the view of each key. Assumes nothing.
use mathlib.Core.Path.{◌≡◌, refl, sym, ◌∙◌}
use mathlib.Core.Bool.{Bool, true, false, true≢false}
use mathlib.Core.Option.{none, some}
use Prim.Native.Nat.{ℕ, ◌<◌}
use native.Mathlib.Omega.{arith}
use native.Mathlib.Decide.{dec_lt, ℕ_discrete}
use borrow.Author.Tests.{lt-ltb, le-ltb}
use Rattle.words.specs.Slots.{Put, slot, view, Distinct}
use Rattle.words.proofs.First.{first-at, first_none, first-same, first_holds, first_below}

-- the slot that is found holds the key, and none below it does
pub at_slot : {R : Type 0} (is : R → ℕ → Bool) (n : ℕ) (f : ℕ → R) (key : ℕ) → slot is n f key < n → is (f (slot is n f key)) key ≡ true
at_slot is n f key = first_holds (λ k. is (f k) key) n

pub below-slot : {R : Type 0} (is : R → ℕ → Bool) (n : ℕ) (f : ℕ → R) (key k : ℕ) → k < slot is n f key → is (f k) key ≡ false
below-slot is n f key = first_below (λ k. is (f k) key) n

-- a row is put, and the key is not concerned, becomes that row's, or is held no more
module _ {R : Type 0} (is : R → ℕ → Bool) (n : ℕ) (f g : ℕ → R) (i : ℕ) (r : R) (p : Put n f g i r) (key : ℕ) where
  each : (k : ℕ) → k < n → Dec (k ≡ i) → is (f i) key ≡ false → is r key ≡ false → is (g k) key ≡ is (f k) key
  each k h (yes e) was now = rw (e, p.at, now, was)
  each k h (no ne) was now = rw (p.off k h ne)

  pub view-other : is (f i) key ≡ false → is r key ≡ false → view is n g key ≡ view is n f key
  unfolding view
  view-other was now = go (dec_lt (slot is n f key) n)
    where
      same : slot is n g key ≡ slot is n f key
      same = first-same (λ k. is (g k) key) (λ k. is (f k) key) n (λ k h. each k h (ℕ_discrete k i) was now)

      go : Dec (slot is n f key < n) → view is n g key ≡ view is n f key
      go (no h) = simp (same, le-ltb (slot is n f key) n (omega arith))
      go (yes h) = rw (same, p.off (slot is n f key) h (λ e. true≢false (sym (at_slot is n f key h) ∙ rw e was)))

  pub view_own : ((k : ℕ) → k < i → is (f k) key ≡ false) → is r key ≡ true → view is n g key ≡ some r
  unfolding view
  view_own below now = simp (here, lt-ltb i n p.inside, p.at)
    where
      here : slot is n g key ≡ i
      here = first-at (λ k. is (g k) key) n i p.inside (λ k h. rw (p.off k (omega arith) (omega arith)) (below k h)) (rw p.at now)

  -- where no other row has the key either, it is held no more
  pub view-gone : ((k : ℕ) → k < n → (k ≡ i → ⊥) → is (f k) key ≡ false) → is r key ≡ false → view is n g key ≡ none
  unfolding view
  view-gone others now = rw (nowhere, le-ltb n n (omega arith))
    where
      gone : (k : ℕ) → k < n → Dec (k ≡ i) → is (g k) key ≡ false
      gone k h (yes e) = rw (e, p.at) now
      gone k h (no ne) = rw (p.off k h ne) (others k h ne)

      nowhere : slot is n g key ≡ n
      nowhere = first_none (λ k. is (g k) key) n (λ k h. gone k h (ℕ_discrete k i))

module _ {R : Type 0} (is : R → ℕ → Bool) (n : ℕ) (f g : ℕ → R) (i : ℕ) (r : R) (p : Put n f g i r) (only : Distinct is n f) where
  pub put_distinct : ((a k : ℕ) → k < n → (k ≡ i → ⊥) → is r a ≡ true → is (f k) a ≡ true → ⊥) → Distinct is n g
  unfolding Distinct
  put_distinct apart a j k jl kl = go (ℕ_discrete j i) (ℕ_discrete k i)
    where
      on : (m : ℕ) → m ≡ i → is (g m) a ≡ true → is r a ≡ true
      on m e h = rw (e, p.at) at h

      off : (m : ℕ) → m < n → (m ≡ i → ⊥) → is (g m) a ≡ true → is (f m) a ≡ true
      off m ml ne h = rw (p.off m ml ne) at h

      go : Dec (j ≡ i) → Dec (k ≡ i) → is (g j) a ≡ true → is (g k) a ≡ true → j ≡ k
      go (yes e) (yes e') x y = e ∙ sym e'
      go (yes e) (no ne) x y = absurd (apart a k kl ne (on j e x) (off k kl ne y))
      go (no ne) (yes e) x y = absurd (apart a j jl ne (on k e y) (off j jl ne x))
      go (no ne) (no ne') x y = only a j k jl kl (off j jl ne x) (off k kl ne' y)

-- the only other holder of the key is the slot itself
pub not_else : {R : Type 0} (is : R → ℕ → Bool) (n : ℕ) (f : ℕ → R) → Distinct is n f → (key i : ℕ) → i < n → is (f i) key ≡ true → (k : ℕ) → k < n → (k ≡ i → ⊥) → is (f k) key ≡ false
unfolding Distinct
not_else is n f only key i il h k kl ne = go (is (f k) key) refl
  where
    go : (b : Bool) → is (f k) key ≡ b → b ≡ false
    go true e = absurd (ne (only key k i kl il e h))
    go false e = refl
