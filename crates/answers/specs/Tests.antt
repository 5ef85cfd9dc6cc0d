-- Tests in order ("Messages are tested 1 to 10 in order", "Pack and read test 11, 12, 13, 14", ..: 01, "Answer numbers"), over any answers.
-- Assumes nothing.
use Rattle.std.specs.Prelude.{ℕ, Bool, cond, List, [], ◌∷◌}
use Rattle.answers.specs.Answers.{Said, Outcome, outcome}

infix 70 ◌when◌
-- a test, and the answer that it gives where it applies
pub record Test (A : Type 0) : Type 0 where
  pub applies : Bool
  pub answer : A

abbrev pub ◌when◌ : {A : Type 0} → A → Bool → Test A
a when b = record { applies = b; answer = a }

-- "tested in order": the first test that applies refuses with its answer; where none applies, the rest decides
abbrev pub in_order : {A B : Type 0} → (A → B) → List (Test A) → B → B
in_order refuse [] rest = rest
in_order refuse (t ∷ ts) rest = cond t.applies (refuse t.answer) (in_order refuse ts rest)

-- of tests that give numbers: the number of the first one that applies, and `later` where none does
abbrev pub first_number_of : List (Test ℕ) → ℕ → ℕ
first_number_of ts later = in_order (λ n. n) ts later

-- a call that is lent memory: "'None' means every table and buffer holds what it held"
abbrev pub tested : List (Test Said) → List ℕ → Outcome → Outcome
tested ts memory rest = in_order (λ a. outcome a memory) ts rest
