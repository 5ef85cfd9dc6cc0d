-- What a directed pair of ports is, what its commands do to it and what it answers (01, "Port pairs"), with no word of memory.
-- Assumes nothing.
use Rattle.std.specs.Prelude.{◌≡◌, Bool, true, false, ◌&&◌, ◌||◌, not, cond, List, [], ◌∷◌, ℕ, ◌+◌, ◌-◌, ◌%◌, ◌^◌, ◌<◌, eqb, ltb, leb, Result, Ok, Err}
use Rattle.answers.specs.Answers.{Said, plain, done}
use Rattle.answers.specs.Tests.{Test, ◌when◌, first_number_of}
use Rattle.frame.specs.Frame.{greatest_identifier, bits, fields_of, pgn_of}
use Rattle.pairs.specs.declared.Command.{Command}
use Rattle.pairs.specs.declared.Command.TheVariants.{Add, Delete, Renew}
use Rattle.pairs.specs.declared.Refusal.{Refusal}
use Rattle.pairs.specs.declared.Refusal.TheVariants.{NoPair, Full, IllFormed, NotListed, NoMode}

-- "a list of up to 32 PGNs"
abbrev pub room : ℕ
room = 32

-- "Each has a mode and a list of up to 32 PGNs of its own": a list is what it holds and how many, and its order is nothing
pub record Pair : Type 0 where
  pub mode : ℕ
  pub listed : ℕ → Bool
  pub count : ℕ

abbrev pub pair_with : ℕ → (ℕ → Bool) → ℕ → Pair
pair_with m l n = record { mode = m; listed = l; count = n }

-- the count is the number of the PGNs that are listed: they stand at the places below it, each at one
pub record Counted (p : Pair) : Type 0 where
  pub at : ℕ → ℕ
  pub listed_at : (k : ℕ) → k < p.count → p.listed (at k) ≡ true
  pub place : (g : ℕ) → p.listed g ≡ true → (k : ℕ) × (k < p.count) × (at k ≡ g)
  pub once : (j k : ℕ) → j < p.count → k < p.count → at j ≡ at k → j ≡ k

-- "A fresh pair has mode 0 and an empty list"
abbrev pub fresh_pair : Pair
fresh_pair = pair_with 0 (λ g. false) 0

-- answer 17: "PGN above 262,143, or PF below 240 with a low byte other than 0"
abbrev pub ill_formed : ℕ → Bool
ill_formed g = ltb 262143 g || (ltb (bits g 8 8) 240 && not (eqb (g % 2 ^ 8) 0))

-- "Mode 0 passes all but the listed, mode 1 blocks all but the listed"
abbrev pub passes : ℕ → Bool → Bool
passes mode listed = cond (eqb mode 0) (not listed) listed

-- "Filter commands test 15, then 17, 19, 20, 18, 16 as far as they apply", and since Req 07 "Answer 20 is never given again". 16: "the PGN is
-- new" and the list holds 32; 18: "PGN not in the filter list"; 19: "not 0 or 1". (15 is about the ports: ports, specs/Filters.antt.)
abbrev pub tests_for : Pair → Command → List (Test ℕ)
tests_for p (Add g) = 17 when ill_formed g ∷ 16 when (not (p.listed g) && leb room p.count) ∷ []
tests_for p (Delete g) = 17 when ill_formed g ∷ 18 when not (p.listed g) ∷ []
tests_for p (Renew m) = 19 when ltb 1 m ∷ []

-- the number of the answer to a command
unfoldable pub answer_to : Pair → Command → ℕ
answer_to p c = first_number_of (tests_for p c) 0

-- the same of what a command came to: 0 where it was obeyed, else the number of its refusal
abbrev pub number_of : Result (Unit {0}) Refusal → ℕ
number_of (Ok _) = 0
number_of (Err NoPair) = 15
number_of (Err Full) = 16
number_of (Err IllFormed) = 17
number_of (Err NotListed) = 18
number_of (Err NoMode) = 19

-- what a command that is answered 0 makes of the pair: "Add (a PGN already there: answer 0, no change), delete", and Req 07's single command: "named
-- pair, new mode, empty list"
unfoldable pub obeyed : Pair → Command → Pair
obeyed p (Add g) = cond (p.listed g) p (pair_with p.mode (λ x. eqb x g || p.listed x) (p.count + 1))
obeyed p (Delete g) = pair_with p.mode (λ x. not (eqb x g) && p.listed x) (p.count - 1)
obeyed p (Renew m) = pair_with m (λ x. false) 0

-- a refused command leaves the pair as it was
unfoldable pub step_pair : Pair → Command → Pair
step_pair p c = cond (eqb (answer_to p c) 0) (obeyed p c) p

-- the answer to a command: its detail is 0
abbrev pub replied : Pair → Command → Said
replied p c = plain (answer_to p c)

-- the answer of the deciding call: "then 1" (identifier above 2^29 - 1), "otherwise 0 with detail 1 for pass and 0 for block, by the frame's PGN"
unfoldable pub decided_by : Pair → ℕ → Said
decided_by p id = cond (ltb greatest_identifier id) (plain 1) (done (cond (passes p.mode (p.listed (pgn_of (fields_of id)))) 1 0))
