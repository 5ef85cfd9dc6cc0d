-- What stands at a position of a key's map, by the cell of its row. Assumes nothing.
use Prim.Native.Nat.{ℕ}
use mathlib.Core.Path.{◌≡◌, sym, ap, ◌∙◌}
use mathlib.Core.Bool.{◌&&◌}
use mathlib.Core.List.{List}
use lib.Dec.{eqb, leb}
use lib.ListN.{length}
use borrow.Author.Tests.{ne_eqb}
use Rattle.words.proofs.Tests.{test}
use Rattle.answers.specs.Answers.{Said, plain}
use Rattle.judge.specs.Judge.{with_width, params_of}
use Rattle.message.specs.declared.Key.{Key}
use Rattle.dictionary.specs.Dictionary.{width_by}
use Rattle.lookup.specs.View.{map_in, row_for}
use Rattle.lookup.proofs.KeyRow.{its_edition, its_map}
use Rattle.open.specs.Open.{width_row, width_for}
use Rattle.keyrow.specs.Row.{positions, row_words, state_word}
use Rattle.keyrow.specs.View.{place_of, row_map, spn_there, start_there}
use Rattle.ask.specs.Ask.{nowhere, stands_by}
use Rattle.ask.specs.Parts.{cell_at}
use Rattle.open.proofs.Unfolded.{row-held}

-- the cell says what stands at the position of the row's map
pub cell-stands : (width_of : ℕ → ℕ) (row : List ℕ) (p : ℕ) → with_width width_of (place_of (cell_at row p)) ≡ params_of width_of (row_map row) p
unfolding cell_at row_map
cell-stands width_of row p =
    test (eqb (state_word row) 1) (λ e. rw e (test (leb 1 p && leb p positions) (λ i. rw i) (λ o. rw o))) (λ e. rw e)

module _ (width_of : ℕ → ℕ) (row : List ℕ) (p : ℕ) (a : Said) where
  here : (cell : ℕ) → cell ≡ cell_at row p → with_width width_of (place_of cell) ≡ params_of width_of (row_map row) p
  here cell its = ap (λ (c : ℕ). with_width width_of (place_of c)) its ∙ cell-stands width_of row p

  pub stands_no : cell_at row p ≡ 0 → a ≡ plain 18 → nowhere a ≡ stands_by width_of (row_map row) p
  unfolding stands_by
  stands_no z e = rw (e, row-held row, ← here 0 (sym z))

  pub stands_here : (cell : ℕ) → cell ≡ cell_at row p → (cell ≡ 0 → ⊥) → a ≡ plain 0 → (spn start width : ℕ) → spn ≡ spn_there (place_of cell) → start ≡ start_there (place_of cell) → width ≡ width_of spn
      → record { answer = a; spn = spn; start = start; width = width } ≡ stands_by width_of (row_map row) p
  unfolding stands_by
  stands_here cell its n e spn start width f g h = rw (e, h, f, g, row-held row, ← here cell its, ne_eqb cell 0 n)

-- by the key's row
module _ (t : List ℕ) (k : Key) (row : List ℕ) (its : row ≡ row_for t k) (long : length row ≡ row_words) where
  pub row_stands : (p : ℕ) → stands_by (width_row row) (row_map row) p ≡ stands_by (width_for t k) (map_in t k) p
  row_stands p = λ i. stands_by (width_by (its_edition t k row its i)) (sym (its_map t k row long its) i) p
