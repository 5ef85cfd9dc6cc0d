-- What an answer to a frame stands for says which answer it is: a promise about it leaves no choice. Assumes nothing.
use Prim.Native.Nat.{ℕ}
use mathlib.Core.Bool.{cond}
use mathlib.Core.Path.{◌≡◌, refl, sym, ap, ◌∙◌}
use mathlib.Core.Option.{none-ne-some, some-injective}
use lib.Dec.{eqb}
use borrow.Author.Tests.{eqb-false}
use Rattle.std.specs.Prelude.{Option, None, Some, Result, Ok, Err}
use Rattle.message.specs.declared.Message.{Message}
use Rattle.message.specs.declared.Fault.{Fault}
use Rattle.message.specs.declared.Fault.TheVariants.{Identifier, OtherPgn, Length, Source, Foreign, Unflagged, Miscounted, Misplaced}
use Rattle.message.specs.Fault.{fault_number, number_told}
use Rattle.message.specs.Message.{Heard, heard_of}

-- the fault of a number
abbrev fault_of : ℕ → Fault
fault_of n =
    cond (eqb n 1) Identifier
    (cond (eqb n 2) OtherPgn (cond (eqb n 3) Length (cond (eqb n 4) Source (cond (eqb n 5) Foreign (cond (eqb n 6) Unflagged (cond (eqb n 7) Miscounted Misplaced))))))

back : (x : Fault) → fault_of (fault_number x) ≡ x
back Identifier = refl
back OtherPgn = refl
back Length = refl
back Source = refl
back Foreign = refl
back Unflagged = refl
back Miscounted = refl
back Misplaced = refl

-- one number, one fault
pub same_fault : (x y : Fault) → fault_number x ≡ fault_number y → x ≡ y
same_fault x y e = sym (back x) ∙ ap fault_of e ∙ back y

pub no_fault-is-0 : (x : Fault) → fault_number x ≡ 0 → ⊥
no_fault-is-0 Identifier = eqb-false 1 0 refl
no_fault-is-0 OtherPgn = eqb-false 2 0 refl
no_fault-is-0 Length = eqb-false 3 0 refl
no_fault-is-0 Source = eqb-false 4 0 refl
no_fault-is-0 Foreign = eqb-false 5 0 refl
no_fault-is-0 Unflagged = eqb-false 6 0 refl
no_fault-is-0 Miscounted = eqb-false 7 0 refl
no_fault-is-0 Misplaced = eqb-false 8 0 refl

-- one number and one message, one answer
pub same-heard : (a b : Result Message Fault) → heard_of a ≡ heard_of b → a ≡ b
same-heard (Err x) (Err y) e = ap Err (same_fault x y (ap (λ (h : Heard). h.number) e))
same-heard (Err x) (Ok n) e = absurd (none-ne-some n (ap (λ (h : Heard). h.message) e))
same-heard (Ok m) (Err y) e = absurd (none-ne-some m (sym (ap (λ (h : Heard). h.message) e)))
same-heard (Ok m) (Ok n) e = ap Ok (some-injective m n (ap (λ (h : Heard). h.message) e))

-- where a frame has no fault, no number is told
pub none-told : (o : Option Fault) → ((x : Fault) → o ≡ Some x → ⊥) → number_told o ≡ 0
none-told None h = refl
none-told (Some x) h = absurd (h x refl)
