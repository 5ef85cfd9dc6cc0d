-- Laws of tests that many proofs go by. Assumes nothing.
use mathlib.Core.Path.{◌≡◌, refl, sym, ◌∙◌}
use mathlib.Core.Bool.{Bool, true, false, true≢false}

-- a test by its two answers, each with its equation
pub test {ℓ} : {X : Type ℓ} (b : Bool) → (b ≡ true → X) → (b ≡ false → X) → X
test true f g = f refl
test false f g = g refl

-- no test has both answers
pub never {ℓ} : {X : Type ℓ} {b : Bool} → b ≡ true → b ≡ false → X
never t f = absurd (true≢false (sym t ∙ f))

-- two tests that hold together are one
pub same_test : (a b : Bool) → (a ≡ true → b ≡ true) → (b ≡ true → a ≡ true) → a ≡ b
same_test true b f g = sym (f refl)
same_test false true f g = g refl
same_test false false f g = refl
