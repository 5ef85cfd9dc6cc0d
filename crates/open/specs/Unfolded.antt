-- A row of the learned table as lists of SPNs, starts and widths of its first positions. Only the promises of private functions cite this.
-- Assumes nothing.
use Rattle.std.specs.Prelude.{ℕ, suc, ◌+◌, Bool, cond, List, ◌++◌, eqb, get_or, drop}
use Rattle.std.proofs.Math.Option.{Option}
use Rattle.words.specs.Lists.{tabulate}
use Rattle.judge.specs.Judge.{Param, measured, mark}
use Rattle.keyrow.specs.Row.{form_word}
use Rattle.keyrow.specs.View.{head_of, place_in}
use Rattle.open.specs.Open.{width_row, reach}

-- what a row says of each position, with the widths of its edition
abbrev pub params_in : List ℕ → ℕ → Option Param
params_in row p = measured (width_row row) (place_in row) p

-- a list into which a number of each of the first m positions is laid; past them it holds what it held
unfoldable pub unfolded : (Option Param → ℕ) → List ℕ → ℕ → List ℕ → List ℕ
unfolded f row m held = tabulate (λ i. f (params_in row (suc i))) m ++ drop m held

-- the same as far as the row's own n asks
abbrev pub unfolded_in : (Option Param → ℕ) → List ℕ → List ℕ → List ℕ
unfolded_in f row held = unfolded f row (reach (head_of (form_word row)).n) held

-- whether the cell of an index is empty
abbrev pub empty_at : List ℕ → ℕ → Bool
empty_at row i = eqb (get_or row (3 + i) 0) 0

-- widths with the mark at each of the first m positions whose cell is empty
abbrev pub marked_at : List ℕ → List ℕ → ℕ → ℕ
marked_at row widths i = cond (empty_at row i) mark (get_or widths i 0)

unfoldable pub marked_to : List ℕ → ℕ → List ℕ → List ℕ
marked_to row m widths = tabulate (marked_at row widths) m ++ drop m widths
