-- The words after a list of events, the latest first. Whatever a call does to the table is such a list: a frame none or one, a forget one, and a
-- later call that loads or feeds many.
-- Assumes nothing.
use Rattle.std.specs.Prelude.{ℕ, List, [], ◌∷◌}
use Rattle.answers.specs.Answers.{Outcome}
use Rattle.words.specs.Runs as runs
use Rattle.history.specs.History.{Event, Learn, Forget, Edition, subject}
use Rattle.keyrow.specs.Row.{key_number, InBytes, InRow}
use Rattle.table.specs.Learn.{empty_table, learn_message}
use Rattle.table.specs.Forget.{forgotten}
use Rattle.edition.specs.Edition.{edited}

-- ---- the words

-- what an event makes of the words, and what it is answered: as `learn`, `forget` and `set_edition` promise
abbrev pub event : List ℕ → Event → Outcome
event t (Learn m) = learn_message t m
event t (Forget k) = forgotten t (key_number k)
event t (Edition k e) = edited t (key_number k) e

-- the words after events, from any words and from the empty table
abbrev pub words_from : List ℕ → List Event → List ℕ
words_from t h = runs.fold (λ u e. (event u e).memory) t h

abbrev pub words_by : List Event → List ℕ
words_by h = words_from empty_table h

-- ---- what an event carries: the arguments' types say as much of a frame and of a forget (law in_words)

-- a message's numbers have their place in a row
abbrev pub Placed : Event → Type 0
Placed (Learn m) = InRow m
Placed (Forget k) = Unit {0}
Placed (Edition k e) = Unit {0}

-- the numbers of an event have their place in the words
pub record InWords (e : Event) : Type 0 where
  pub key : InBytes (subject e)
  pub row : Placed e

abbrev pub AllInWords : List Event → Type 0
AllInWords [] = Unit {0}
AllInWords (e ∷ h) = InWords e × AllInWords h
