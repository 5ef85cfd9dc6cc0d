-- The cases of the code and their numbers. Assumes nothing.
use Prim.Native.Nat.{ℕ, min}
use mathlib.Core.Path.{◌≡◌, refl}
use mathlib.Core.Bool.{true, false, not}
use native.Mathlib.Decide.{dec_lt}
use native.Mathlib.Omega.{arith}
use denote.Enum.Declared.{tag_of}
use denote.Enum.Bare.{sameb}
use borrow.Author.Tests.{ne_eqb}
use Rattle.states.specs.declared.State.{State}
use Rattle.states.specs.declared.State.TheVariants.{Valid, Reserved, Error, NotAvailable}
use Rattle.states.specs.declared.Kind.{Kind}
use Rattle.states.specs.declared.Kind.TheVariants.{Unknown, TwoBits, Byte, TwoBytes, FourBytes, NoRow}
use Rattle.states.specs.contracts.State.{the_type as state_type}
use Rattle.states.specs.contracts.Kind.{the_type as kind_type}
use Rattle.states.specs.States.{state_number, kind_number, state_by}

-- the number of a case is that which the code lays
pub state_tag : (s : State) → tag_of state_type s ≡ state_number s
state_tag Valid = refl
state_tag Reserved = refl
state_tag Error = refl
state_tag NotAvailable = refl

pub kind_tag : (k : Kind) → tag_of kind_type k ≡ kind_number k
kind_tag Unknown = refl
kind_tag TwoBits = refl
kind_tag Byte = refl
kind_tag TwoBytes = refl
kind_tag FourBytes = refl
kind_tag NoRow = refl

-- what a test of the state says of its number
pub is_valid : (s : State) → false ≡ not (sameb state_type s Valid) → state_number s ≡ 0
is_valid Valid e = refl
is_valid Reserved e = cc
is_valid Error e = cc
is_valid NotAvailable e = cc

pub is_other : (s : State) → true ≡ not (sameb state_type s Valid) → state_number s ≡ 0 → ⊥
is_other Valid e q = cc
is_other Reserved e q = omega (arith, q)
is_other Error e q = omega (arith, q)
is_other NotAvailable e q = omega (arith, q)

-- a number above 5 is of a kind that has no row
pub capped : (k number : ℕ) → state_by (min k 5) number ≡ state_by k number
unfolding state_by
capped k number =
    elim (dec_lt k 5) [
      | yes l ↦ let e : min k 5 ≡ k = omega arith in rw e
      | no n ↦ let e : min k 5 ≡ 5 = omega arith in rw (e, ne_eqb k 1 (λ q. omega (arith, n, q)), ne_eqb k 2 (λ q. omega (arith, n, q)), ne_eqb k 3 (λ q. omega (arith, n, q)), ne_eqb k 4 (λ q. omega (arith, n, q)))
    ]
