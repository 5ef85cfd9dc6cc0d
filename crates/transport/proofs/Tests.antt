-- A call that asks for the number of the first test that applies, and then goes by that number, is its tests in order. Assumes nothing.
use Prim.Native.Nat.{ℕ}
use mathlib.Core.Path.{◌≡◌, sym, ap, ◌∙◌}
use mathlib.Core.Bool.{Bool, true, false, not}
use mathlib.Core.List.{List, [], ◌∷◌}
use borrow.Author.Tests.{eqb-true, eqb-false, not-true, not-false}
use lib.Dec.{T, eqb}
use Rattle.words.proofs.Tests.{test}
use Rattle.answers.specs.Tests.{Test, in_order, first_number_of}
use Rattle.answers.proofs.Tests.{numbered, all_pass, none_applies}

module _ {B : Type 0} (refuse : ℕ → B) (rest : B) where
  -- one applies
  pub refused_by : (ts : List (Test ℕ)) (n : ℕ) → n ≡ first_number_of ts 0 → (n ≡ 0 → ⊥) → refuse n ≡ in_order refuse ts rest
  refused_by [] n e h = absurd (h e)
  refused_by (t ∷ ts) n e h = test t.applies (λ y. rw y (ap refuse (rw y at e))) (λ f. rw f (refused_by ts n (rw f at e) h))

  -- none does
  pub passed_by_lem : (ts : List (Test ℕ)) → T (numbered ts) → (n : ℕ) → n ≡ first_number_of ts 0 → n ≡ 0 → rest ≡ in_order refuse ts rest
  passed_by_lem ts h n e z = sym (all_pass refuse ts rest (none_applies ts h (sym e ∙ z)))

-- ---- whether one applies

module _ (ts : List (Test ℕ)) (b : Bool) (its : b ≡ not (eqb (first_number_of ts 0) 0)) where
  pub one_does : b ≡ true → (n : ℕ) → n ≡ first_number_of ts 0 → n ≡ 0 → ⊥
  one_does y n e z = eqb-false (first_number_of ts 0) 0 (not-true _ (sym its ∙ y)) (sym e ∙ z)

  pub none_does : b ≡ false → 0 ≡ first_number_of ts 0
  none_does n = sym (eqb-true (first_number_of ts 0) 0 (not-false _ (sym its ∙ n)))
