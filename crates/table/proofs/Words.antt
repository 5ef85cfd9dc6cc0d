-- What is put into a row of the table, and what a word stored there makes of it. Assumes nothing.
use Prim.Native.Nat.{ℕ, ◌+◌, ◌*◌, ◌<◌}
use mathlib.Core.Path.{◌≡◌, ap}
use mathlib.Core.Bool.{Bool, true, false, cond}
use mathlib.Core.List.{List}
use lib.Dec.{lit<}
use lib.ListN.{length, get_or, set, replicate}
use lib.Seq.{set-get_or}
use native.Mathlib.Omega.{arith}
use Rattle.words.specs.Slots.{Put}
use Rattle.words.proofs.Rows.{row_at-put_at, row_at-put_at-other, set-row-head}
use Rattle.history.specs.History.{most_keys}
use Rattle.keyrow.specs.Row.{row_words, words_are, row_is}
use Rattle.lookup.specs.Layout.{table_words, row_of}
use Rattle.lookup.proofs.Words.{row_is_lem}
use Rattle.table.specs.Layout.{put_row}
use Rattle.table.specs.Learn.{empty_table}
use Rattle.table.specs.Forget.{free_row}

pub all_free : (t : List ℕ) → length t ≡ table_words → replicate (length t) 0 ≡ empty_table
unfolding empty_table
all_free t long = ap (λ (n : ℕ). replicate n 0) long

module _ (t : List ℕ) (long : length t ≡ table_words) where
  -- a row put in a slot
  pub put : (i : ℕ) → i < most_keys → (r : List ℕ) → length r ≡ row_words → Put most_keys (row_of t) (row_of (put_row t i r)) i r
  put i il r rl = record {
    inside = il;
    at = row_at-put_at row_words t i (omega arith) r rl;
    off = λ k kl ne. row_at-put_at-other row_words t i (omega arith) r rl k ne (omega arith);
  }

  -- the state word of row i, stored as it is once the key is forgotten
  pub free-word : (i key : ℕ) → i < most_keys
      → set t (i * row_words) (cond (words_are (get_or t (i * row_words) 0) (get_or t (i * row_words + 1) 0) key) 0 (get_or t (i * row_words) 0)) ≡ free_row t key i
  free-word i key h = rw (← (row_is_lem t long i key h)) (go (row_is (row_of t i) key))
    where
      go : (b : Bool) → set t (i * row_words) (cond b 0 (get_or t (i * row_words) 0)) ≡ cond b (put_row t i (set (row_of t i) 0 0)) t
      go true = set-row-head row_words t i 0 (lit< tt)
      go false = set-get_or t (i * row_words) 0
