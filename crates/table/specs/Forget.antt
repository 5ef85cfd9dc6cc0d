-- What forgetting makes of the words, and what it answers: on any words.
-- Assumes nothing.
use Rattle.std.specs.Prelude.{ℕ, zero, suc, cond, List, ltb, set}
use Rattle.answers.specs.Answers.{Outcome, outcome, plain}
use Rattle.history.specs.History.{most_keys}
use Rattle.keyrow.specs.Row.{row_is}
use Rattle.table.specs.Layout.{put_row}
use Rattle.lookup.specs.Layout.{row_of, slot_of}

-- row i freed where it holds the key: its state is 0, its other words no longer count
abbrev pub free_row : List ℕ → ℕ → ℕ → List ℕ
free_row t key i = cond (row_is (row_of t i) key) (put_row t i (set (row_of t i) 0 0)) t

-- of the first n rows every one freed that holds the key
unfoldable pub free_to : List ℕ → ℕ → ℕ → List ℕ
free_to t key zero = t
free_to t key (suc i) = free_row (free_to t key i) key i

-- "key not held" is 11; "Forgetting frees the key's room"
unfoldable pub forgotten : List ℕ → ℕ → Outcome
forgotten t key = cond (ltb (slot_of t key) most_keys) (outcome (plain 0) (free_to t key most_keys)) (outcome (plain 11) t)
