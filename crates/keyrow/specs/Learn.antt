-- What one message more makes of a row, and what it is answered: on any words. A message comes as the numbers that lie in the words (form, position,
-- cell), so that nothing is asked of them.
-- Assumes nothing.
use Rattle.std.specs.Prelude.{ℕ, ◌+◌, ◌%◌, ◌^◌, Bool, cond, ◌&&◌, ◌||◌, List, Result, Ok, Err, eqb, set, replicate}
use Rattle.answers.specs.Answers.{Said, Outcome, outcome, plain}
use Rattle.message.specs.declared.Message.{Message}
use Rattle.keyrow.specs.declared.InConflict.{InConflict}
use Rattle.keyrow.specs.Row.{row_words, key_number, form_number, cell_number, state_word, form_word, cell_word}

-- the message contradicts nothing of the row: the same n and flags, and at its position nothing or the same SPN and start
unfoldable pub numbers_fit : List ℕ → ℕ → ℕ → ℕ → Bool
numbers_fit r form p cell = eqb (form_word r % 2 ^ 10) form && (eqb (cell_word r p) 0 || eqb (cell_word r p) cell)

-- what the code's result says: 0, or 10 for a key in conflict
abbrev pub learned_row : Result (Unit {0}) InConflict → Said
learned_row (Ok done) = plain 0
learned_row (Err e) = plain 10

-- one message more: "key in conflict, or put there by this message" is 10, and of the words only the state changes
unfoldable pub learn_numbers : List ℕ → ℕ → ℕ → ℕ → Outcome
learn_numbers r form p cell =
    cond (eqb (state_word r) 1)
    (cond (numbers_fit r form p cell) (outcome (plain 0) (set r (2 + p) cell)) (outcome (plain 10) (set r 0 2)))
    (outcome (plain 10) r)

-- the words of a row with the numbers of a key's first message in them
unfoldable pub first_numbers : List ℕ → ℕ → ℕ → ℕ → ℕ → List ℕ
first_numbers r key form p cell = set (set (set (set r 0 1) 1 key) 2 form) (2 + p) cell

-- ---- the same by the message

abbrev pub row_fits : List ℕ → Message → Bool
row_fits r m = numbers_fit r (form_number m.head) m.position (cell_number m.place)

abbrev pub learn_row : List ℕ → Message → Outcome
learn_row r m = learn_numbers r (form_number m.head) m.position (cell_number m.place)

-- the row of a key that has this one message
abbrev pub new_row : Message → List ℕ
new_row m = first_numbers (replicate row_words 0) (key_number m.key) (form_number m.head) m.position (cell_number m.place)
