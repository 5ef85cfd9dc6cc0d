-- What learning makes of the words, and what it answers: on any words.
-- Assumes nothing.
use Rattle.std.specs.Prelude.{ℕ, cond, List, Result, Ok, Err, ltb, replicate}
use Rattle.std.proofs.Math.Option.{Option, none, some}
use Rattle.answers.specs.Answers.{Said, Outcome, outcome, plain}
use Rattle.message.specs.declared.Message.{Message}
use Rattle.message.specs.Message.{heard}
use Rattle.history.specs.History.{most_keys}
use Rattle.keyrow.specs.Row.{key_number}
use Rattle.keyrow.specs.Learn.{learn_row, new_row}
use Rattle.table.specs.declared.Refusal.{Refusal}
use Rattle.table.specs.declared.Refusal.TheVariants.{NoRoom, InConflict}
use Rattle.table.specs.Layout.{put_row}
use Rattle.lookup.specs.Layout.{table_words, row_of, slot_of, free_slot}

-- every row free
unfoldable pub empty_table : List ℕ
empty_table = replicate table_words 0

-- the words with what became of row i
abbrev pub in_row : List ℕ → ℕ → Outcome → Outcome
in_row t i o = outcome o.answer (put_row t i o.memory)

-- what the code's result says: 0, or the number of a refusal
abbrev pub refusal_number : Refusal → ℕ
refusal_number NoRoom = 9
refusal_number InConflict = 10

abbrev pub learned_message : Result (Unit {0}) Refusal → Said
learned_message (Ok done) = plain 0
learned_message (Err why) = plain (refusal_number why)

-- a well-formed message: into its key's row; a new key into the lowest free row; "key new and 16 keys held" is 9
unfoldable pub learn_message : List ℕ → Message → Outcome
learn_message t m =
    cond (ltb (slot_of t (key_number m.key)) most_keys)
    (in_row t (slot_of t (key_number m.key)) (learn_row (row_of t (slot_of t (key_number m.key))) m))
    (cond (ltb (free_slot t) most_keys) (outcome (plain 0) (put_row t (free_slot t) (new_row m))) (outcome (plain 9) t))

-- the message of a frame, where it is one; a refusal leaves every word
abbrev pub taught : List ℕ → ℕ → Option Message → Outcome
taught t number none = outcome (plain number) t
taught t number (some m) = learn_message t m

-- "Messages are tested 1 to 10 in order"
unfoldable pub learnt : List ℕ → ℕ → ℕ → List ℕ → Outcome
learnt t id len d = taught t (heard id len d).number (heard id len d).message
