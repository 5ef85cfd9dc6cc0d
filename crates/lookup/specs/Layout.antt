-- The learned table in lent words: 16 rows of 67 words, one for each key that has room (keyrow says what a row holds). Every definition is total, on any
-- list of words.
-- Assumes nothing.
use Rattle.std.specs.Prelude.{ℕ, ◌<◌, ◌≡◌, List, eqb, Option, Some, None}
use Rattle.words.specs.First.{first}
use Rattle.words.specs.Rows.{row_at}
use Rattle.words.specs.Slots.{slot}
use Rattle.history.specs.History.{most_keys}
use Rattle.keyrow.specs.Row.{row_words, state_word, row_is}

-- the words of the table
abbrev pub table_words : ℕ
table_words = 1072

-- row i
abbrev pub row_of : List ℕ → ℕ → List ℕ
row_of t i = row_at row_words t i

-- the lowest row that holds the key, or 16
unfoldable pub slot_of : List ℕ → ℕ → ℕ
slot_of t key = slot row_is most_keys (row_of t) key

-- the lowest row that is free, or 16
unfoldable pub free_slot : List ℕ → ℕ
free_slot t = first (λ i. eqb (state_word (row_of t i)) 0) most_keys

-- a row as the code numbers it: none of the 16, or that one
abbrev pub IsRow : Option ℕ → ℕ → Type 0
IsRow None i = most_keys ≡ i
IsRow (Some j) i = (j ≡ i) × (j < most_keys)
