-- The words of a row are words of the table. Assumes nothing.
use Prim.Native.Nat.{ℕ, ◌+◌, ◌*◌, ◌-◌, ◌<◌}
use mathlib.Core.Path.{◌≡◌, ap, ◌∙◌}
use mathlib.Core.List.{List}
use lib.Dec.{lit<}
use lib.ListN.{length, take, drop, get_or}
use native.Mathlib.Omega.{arith}
use Rattle.words.proofs.Rows.{part_is-row, length-row_at, row_at_get_d, row_at-head}
use Rattle.history.specs.History.{most_keys}
use Rattle.keyrow.specs.Row.{row_words, state_word, words_are, row_is}
use Rattle.lookup.specs.Layout.{table_words, row_of}

module _ (t : List ℕ) (long : length t ≡ table_words) where
  pub row-length : (i : ℕ) → i < most_keys → length (row_of t i) ≡ row_words
  row-length i h = length-row_at row_words t i (omega arith)

  -- as a part that is lent
  pub part_length : (i : ℕ) → i < most_keys → length (take (i * row_words + row_words - i * row_words) (drop (i * row_words) t)) ≡ row_words
  part_length i h = ap length (part_is-row row_words t i) ∙ row-length i h

  -- word k of row i
  pub row_word : (i k : ℕ) → i < most_keys → k < row_words → get_or (row_of t i) k 0 ≡ get_or t (i * row_words + k) 0
  row_word i k h l = row_at_get_d row_words t i (omega arith) k l

  pub row-state : (i : ℕ) → i < most_keys → state_word (row_of t i) ≡ get_or t (i * row_words) 0
  row-state i h = row_at-head row_words t i (omega arith) (lit< tt)

  pub row_is_lem : (i key : ℕ) → i < most_keys → row_is (row_of t i) key ≡ words_are (get_or t (i * row_words) 0) (get_or t (i * row_words + 1) 0) key
  unfolding row_is
  row_is_lem i key h = rw (row-state i h, row_word i 1 h (lit< tt))
