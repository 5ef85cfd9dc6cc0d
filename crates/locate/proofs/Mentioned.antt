-- An SPN that no cell of a key's row has is in no usable map of it. Assumes nothing.
use Prim.Native.Nat.{ℕ, suc, ◌+◌, ◌-◌, ◌<◌}
use mathlib.Core.Path.{◌≡◌, refl, ap, ◌∙◌}
use mathlib.Core.Bool.{true, false, and-false}
use mathlib.Core.Option.{Option, none, some}
use mathlib.Core.List.{List, []}
use native.Mathlib.Decide.{dec_lt}
use native.Mathlib.Omega.{arith}
use lib.Dec.{eqb}
use lib.ListN.{length, get_or}
use borrow.Author.Tests.{le-leb, lt-leb, lt-ltb, le-ltb}
use Rattle.words.proofs.Tests.{test, never}
use Rattle.words.proofs.Lowest.{any-each, lowest_none}
use Rattle.message.specs.declared.Key.{Key}
use Rattle.message.specs.declared.Place.{Place}
use Rattle.judge.specs.Judge.{is_none, with_width, spn_in, spn_at, usable, count_of, params_of}
use Rattle.judge.proofs.Judged.{usable_sound}
use Rattle.history.specs.History.{most_keys}
use Rattle.keyrow.specs.Row.{key_number, positions, row_words, state_word}
use Rattle.keyrow.specs.View.{place_of, spn_there, place_in, row_as, row_map}
use Rattle.lookup.specs.Layout.{table_words, slot_of, row_of}
use Rattle.lookup.proofs.Words.{row-length}
use Rattle.lookup.specs.View.{map_in, row_for}
use Rattle.lookup.proofs.KeyRow.{no_map, its_map}
use Rattle.ask.specs.Ask.{position_of}
use Rattle.locate.specs.Parts.{mentioned, position_told}

-- what stands at a position, with its width, has the same SPN
same-spn : (width_of : ℕ → ℕ) (x : Option Place) → spn_in (with_width width_of x) ≡ spn_there x
same-spn width_of none = refl
same-spn width_of (some x) = refl

-- a position of a usable map is one of the row's cells
in_cells : (width_of : ℕ → ℕ) (row : List ℕ) (i : ℕ) → is_none (with_width width_of (place_in row (suc i))) ≡ false → (i < positions) × (place_in row (suc i) ≡ place_of (get_or row (3 + i) 0))
in_cells width_of row i e =
    elim (dec_lt i positions) [
      | yes l ↦ let f : 2 + suc i ≡ 3 + i = omega arith in
          (l, rw (le-leb 1 (suc i) (omega arith), le-leb (suc i) positions l) (ap (λ (j : ℕ). place_of (get_or row j 0)) f))
      | no n ↦ never refl (rw (le-leb 1 (suc i) (omega arith), lt-leb (suc i) positions (omega arith)) at e)
    ]

-- a key without a row does not answer
pub no_row : (width_of : ℕ → ℕ) (own spn : ℕ) (k : Key) (t : List ℕ) → length t ≡ table_words → [] ≡ row_for t k → ◌≡◌ {A = ℕ} 0 (position_told width_of own spn k (map_in t k))
unfolding position_told
no_row width_of own spn k t long e = rw (no_map t k long e) (rw (and-false (eqb k.source own)))

module _ (width_of : ℕ → ℕ) (own spn : ℕ) (k : Key) (row : List ℕ) (silent : mentioned row spn ≡ false) where
  absent : length row ≡ row_words → usable width_of (row_map row) ≡ true → position_of width_of (row_map row) spn ≡ 0
  unfolding position_of row_map mentioned
  absent long =
      test (eqb (state_word row) 1)
      (λ s. rw s (λ u. lowest_none (λ i. eqb (spn_at (params_of width_of (row_as row)) i) spn) (count_of (row_as row))
      (λ i l.
      let (h, p) = in_cells width_of row i ((usable_sound width_of (row_as row) u).present i l) in
      ap (λ (x : ℕ). eqb x spn) (same-spn width_of (place_in row (suc i)) ∙ ap spn_there p)
      ∙ any-each (λ j. eqb (spn_there (place_of (get_or row (3 + j) 0))) spn) (length row - 3) silent i (omega (arith, long, h)))))
      (λ s. rw s (λ u. never u refl))

  -- where the row is the key's, the key does not answer
  pub not-mentioned : (t : List ℕ) → length t ≡ table_words → row ≡ row_for t k → ◌≡◌ {A = ℕ} 0 (position_told width_of own spn k (map_in t k))
  unfolding position_told row_for
  not-mentioned t long its =
      elim (dec_lt (slot_of t (key_number k)) most_keys) [
        | yes l ↦ let e : row ≡ row_of t (slot_of t (key_number k)) = rw (lt-ltb (slot_of t (key_number k)) most_keys l) at its in
            let w : length row ≡ row_words = ap length e ∙ row-length t long (slot_of t (key_number k)) l in
            rw (its_map t k row w its) (test (usable width_of (row_map row)) (λ u. rw (u, absent w u, and-false (eqb k.source own))) (λ u. rw (u, and-false (eqb k.source own))))
        | no n ↦ no_row width_of own spn k t long (rw (le-ltb (slot_of t (key_number k)) most_keys (omega arith)) refl)
      ]
