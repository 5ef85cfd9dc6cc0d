-- The numbers of the pairs: two different ports, each 1 to 4, have a number below 12, and no others have one.
-- Assumes nothing.
use mathlib.Core.Path.{◌≡◌, refl, sym}
use mathlib.Core.Bool.{Bool, true, false, and-eq-true_iff}
use Prim.Native.Nat.{ℕ, ◌+◌, ◌*◌, ◌-◌, ◌≤◌, ◌<◌}
use native.Mathlib.Decide.{dec_lt}
use native.Mathlib.Omega.{arith}
use borrow.Author.Tests.{leb-true, eqb-false, not-true, lt-ltb, le-ltb}
use lib.Dec.{eqb, leb, ltb}
use Rattle.ports.specs.Filters.{two_ports, pair_of}

-- what the test of two ports tells
pub record Two (f t : ℕ) : Type 0 where
  pub from-least : 1 ≤ f
  pub from-most : f ≤ 4
  pub to-least : 1 ≤ t
  pub to-most : t ≤ 4
  pub differ : f ≡ t → ⊥

pub two : (f t : ℕ) → two_ports f t ≡ true → Two f t
unfolding two_ports
two f t e =
    let (a, e₁) = (and-eq-true_iff (leb 1 f) _).0 e in
    let (b, e₂) = (and-eq-true_iff (leb f 4) _).0 e₁ in
    let (c, e₃) = (and-eq-true_iff (leb 1 t) _).0 e₂ in
    let (d, n) = (and-eq-true_iff (leb t 4) _).0 e₃ in
    record {
      from-least = leb-true 1 f a;
      from-most = leb-true f 4 b;
      to-least = leb-true 1 t c;
      to-most = leb-true t 4 d;
      differ = eqb-false f t (not-true (eqb f t) n);
    }

-- the number in each of the two cases
pub number_above : (f t : ℕ) → two_ports f t ≡ true → t < f → pair_of f t ≡ (f - 1) * 3 + (t - 1)
unfolding pair_of
number_above f t e h = simp (e, lt-ltb t f h)

pub number-below : (f t : ℕ) → two_ports f t ≡ true → f ≤ t → pair_of f t ≡ (f - 1) * 3 + (t - 2)
unfolding pair_of
number-below f t e h = simp (e, le-ltb t f h)

pub number_none : (f t : ℕ) → two_ports f t ≡ false → pair_of f t ≡ 12
unfolding pair_of
number_none f t e = rw e

-- a pair's number is below 12
pub number_fits : (f t : ℕ) → two_ports f t ≡ true → pair_of f t < 12
number_fits f t e = go (two f t e) (dec_lt t f)
  where
    go : Two f t → Dec (t < f) → pair_of f t < 12
    go b (yes h) = omega (arith, number_above f t e h)
    go b (no h) = omega (arith, number-below f t e (omega arith))

-- the test of the ports by the number
pub by_number : (f t : ℕ) → two_ports f t ≡ ltb (pair_of f t) 12
by_number f t = go (two_ports f t) refl
  where
    go : (b : Bool) → two_ports f t ≡ b → b ≡ ltb (pair_of f t) 12
    go true e = sym (lt-ltb (pair_of f t) 12 (number_fits f t e))
    go false e = rw (number_none f t e)
