-- Whose row it is. Assumes nothing.
use Prim.Native.Nat.{ℕ}
use mathlib.Core.Path.{◌≡◌}
use mathlib.Core.Bool.{true, false, not, and-eq-true_iff, and-false}
use mathlib.Core.List.{List}
use borrow.Author.Tests.{eqb-true, eqb-false, eq-eqb, ne_eqb, not-true}
use lib.Dec.{eqb}
use Rattle.keyrow.specs.Row.{state_word, key_word, row_is}

pub is_held : (r : List ℕ) (a : ℕ) → row_is r a ≡ true → (state_word r ≡ 0 → ⊥) × (key_word r ≡ a)
unfolding row_is
is_held r a h =
    let (s, k) = (and-eq-true_iff (not (eqb (state_word r) 0)) _).0 h in
    (eqb-false _ 0 (not-true _ s), eqb-true (key_word r) a k)

pub held-is : (r : List ℕ) (a : ℕ) → (state_word r ≡ 0 → ⊥) → key_word r ≡ a → row_is r a ≡ true
unfolding row_is
held-is r a s k = rw (ne_eqb (state_word r) 0 s, eq-eqb (key_word r) a k)

pub other_key : (r : List ℕ) (b : ℕ) → (key_word r ≡ b → ⊥) → row_is r b ≡ false
unfolding row_is
other_key r b ne = rw (ne_eqb (key_word r) b ne, and-false (not (eqb (state_word r) 0)))

pub free-is : (r : List ℕ) (b : ℕ) → state_word r ≡ 0 → row_is r b ≡ false
unfolding row_is
free-is r b e = rw e
