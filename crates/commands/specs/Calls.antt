-- Runs of calls, and the pair that a run leaves (01's third demand on the ports). Calls come with any numbers. Assumes nothing.
use Rattle.std.specs.Prelude.{Bool, false, ◌&&◌, List, [], ◌∷◌, ℕ, eqb, leb}
use Rattle.words.specs.Runs.{only, up_to, fold}
use Rattle.answers.specs.Answers.{Said, Outcome, outcome}
use Rattle.pairs.specs.declared.Command.{Command}
use Rattle.pairs.specs.declared.Command.TheVariants.{Add, Delete, Renew}
use Rattle.pairs.specs.Pairs.{Pair, fresh_pair, step_pair, replied, decided_by}
use Rattle.ports.specs.Filters.{fresh_words, commanded, decided}

-- a command, or an identifier to decide on
pub data Ask : Type 0 where
  Order : Command → Ask
  Decide : ℕ → Ask

pub record PortCall : Type 0 where
  pub from : ℕ
  pub to : ℕ
  pub ask : Ask

-- what a call answers and leaves: what the functions promise of it
abbrev pub called_by : List ℕ → ℕ → ℕ → Ask → Outcome
called_by w f t (Order c) = commanded w f t c
called_by w f t (Decide id) = outcome (decided w f t id) w

abbrev pub called : List ℕ → PortCall → Outcome
called w c = called_by w c.from c.to c.ask

-- the words after a run of calls on fresh filters; a run is a list of calls, the latest first
abbrev pub filters_after : List PortCall → List ℕ
filters_after [] = fresh_words
filters_after (c ∷ h) = (called (filters_after h) c).memory

-- what a pair answers, and what it is afterwards
abbrev pub answer_of : Pair → Ask → Said
answer_of p (Order c) = replied p c
answer_of p (Decide id) = decided_by p id

abbrev pub asked : Pair → Ask → Pair
asked p (Order c) = step_pair p c
asked p (Decide id) = p

-- whether a call names the pair
unfoldable pub names_pair : ℕ → ℕ → PortCall → Bool
names_pair f t c = eqb c.from f && eqb c.to t

-- what the calls that name a pair, in their order, make of a fresh pair
abbrev pub pair_after : List PortCall → ℕ → ℕ → Pair
pair_after h f t = fold (λ p c. asked p c.ask) fresh_pair (only (names_pair f t) h)

-- whether a call is a renew that is carried out, where its ports are two
abbrev pub renews_by : Ask → Bool
renews_by (Order (Renew m)) = leb m 1
renews_by (Order (Add g)) = false
renews_by (Order (Delete g)) = false
renews_by (Decide id) = false

-- the calls that name a pair since its last renew, that one included
abbrev pub since_renew : List PortCall → ℕ → ℕ → List PortCall
since_renew h f t = up_to (λ c. renews_by c.ask) (only (names_pair f t) h)
