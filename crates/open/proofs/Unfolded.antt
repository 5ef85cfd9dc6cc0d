-- What the lists of a row's cells say: the parameters of its positions, and the same judgement. Assumes nothing.
use Prim.Native.Nat.{ℕ, zero, suc, ◌+◌, ◌-◌, ◌/◌, ◌%◌, ◌^◌, ◌≤◌, ◌<◌, min}
use mathlib.Core.Path.{◌≡◌, refl, sym, ap, ap₂, ◌∙◌}
use mathlib.Core.Bool.{Bool, true, false, cond}
use mathlib.Core.List.{List, [], ◌∷◌, ◌++◌}
use mathlib.Core.Option.{Option, none, some}
use lib.Dec.{eqb}
use lib.ListN.{length, get_or, set, take, drop, length-append, length-drop, get_or-append}
use lib.Seq.{take-append_seam, drop_at, get_or-append-add, get_or-drop}
use native.Mathlib.Nat.{add-zero, min-eq_left, min-eq_right, min-le_right, le_of_suc-le-suc, not-suc-le-zero}
use native.Mathlib.Decide.{dec_lt}
use native.Mathlib.Omega.{arith}
use borrow.Author.Tests.{le-leb, lt-leb, ne_eqb}
use Rattle.answers.specs.Answers.{Judged, at as judged_at}
use Rattle.message.specs.declared.Place.{Place}
use Rattle.words.specs.Lists.{tabulate}
use Rattle.words.specs.First.{any}
use Rattle.words.proofs.Lowest.{any-each}
use Rattle.words.proofs.Lists.{in_range, length-tabulate, get_tabulate, tabulate_equal, write_more}
use Rattle.dictionary.specs.Dictionary.{width_by, widths_over}
use Rattle.dictionary.proofs.Table.{width-most}
use Rattle.maps.specs.Maps.{Conflict, Held}
use Rattle.words.proofs.Tests.{test}
use Rattle.judge.specs.Judge.{Param, with_width, spn_in, start_in, judge_over, judge, mark, shortest, in_slices}
use Rattle.judge.proofs.Within.{judged-same}
use Rattle.judge.proofs.Slices.{slices_at, slices_past}
use Rattle.keyrow.specs.Row.{positions, state_word, form_word}
use Rattle.keyrow.specs.View.{head_of, form_edition, place_of, place_in, row_map, row_as, spn_there, start_there}
use Rattle.open.specs.Open.{is_held, width_row, marked_width, reach}
use Rattle.open.specs.Unfolded.{params_in, unfolded, unfolded_in, empty_at, marked_at, marked_to}

-- the parameter of index i by its word
pub cell_at : (row : List ℕ) (i : ℕ) → i < positions → with_width (width_row row) (place_of (get_or row (3 + i) 0)) ≡ params_in row (suc i)
cell_at row i l =
    let e : 3 + i ≡ 2 + suc i = omega arith in
    rw (e, le-leb 1 (suc i) (omega arith), le-leb (suc i) positions l)

-- the width of a cell's parameter, by its SPN and the mark
width_of-cell : (width_of : ℕ → ℕ) (cell : ℕ) → cond (eqb cell 0) mark (width_of (spn_in (with_width width_of (place_of cell)))) ≡ marked_width (with_width width_of (place_of cell))
width_of-cell width_of cell = go (eqb cell 0)
  where
    go : (b : Bool) → cond b mark (width_of (spn_in (with_width width_of (cond b none (some (record { spn = (cell - 1) % 2 ^ 32; start = (cell - 1) / 2 ^ 32 }))))))
        ≡ marked_width (with_width width_of (cond b none (some (record { spn = (cell - 1) % 2 ^ 32; start = (cell - 1) / 2 ^ 32 }))))
    go true = refl
    go false = refl

-- what a decoder of cells gives, as the lists have it
pub spn_there_lem : (width_of : ℕ → ℕ) (x : Option Place) → spn_there x ≡ spn_in (with_width width_of x)
spn_there_lem width_of none = refl
spn_there_lem width_of (some y) = refl

pub start_there_lem : (width_of : ℕ → ℕ) (x : Option Place) → start_there x ≡ start_in (with_width width_of x)
start_there_lem width_of none = refl
start_there_lem width_of (some y) = refl

-- a turn of `lay_places`: one number more is written, that of the parameter at index i
pub turn : (f : Option Param → ℕ) (row d xs : List ℕ) (i v : ℕ) → length d ≡ positions → i < positions
    → xs ≡ unfolded f row i d → v ≡ f (with_width (width_row row) (place_of (get_or row (3 + i) 0))) → set xs i v ≡ unfolded f row (i + 1) d
unfolding unfolded
turn f row d xs i v e l w q = rw (w, q, cell_at row i l) (write_more (λ k. f (params_in row (suc k))) i d (omega arith))

-- ---- the judge's slices

-- a list of numbers by index, whatever stands past its end
listed : (f : ℕ → ℕ) (n i d : ℕ) → i < n → get_or (tabulate f n) i d ≡ f i
listed f n i d l = in_range (tabulate f n) i d 0 (rw length-tabulate l) ∙ get_tabulate f n i l

-- what was unfolded, by index
module _ (f : Option Param → ℕ) (row : List ℕ) (m : ℕ) (held : List ℕ) where
  pub unfolded-at : (i d : ℕ) → i < m → get_or (unfolded f row m held) i d ≡ f (params_in row (suc i))
  unfolding unfolded
  unfolded-at i d l = get_or-append (tabulate _ m) (drop m held) d i (rw length-tabulate l) ∙ listed (λ k. f (params_in row (suc k))) m i d l

  pub unfolded-length : length held ≡ positions → m ≤ positions → length (unfolded f row m held) ≡ positions
  unfolding unfolded
  unfolded-length e l = simp (length-append, length-tabulate, length-drop) (omega (arith, e, l))

  pub unfolded-first : take m (unfolded f row m held) ≡ tabulate (λ i. f (params_in row (suc i))) m
  unfolding unfolded
  unfolded-first =
      ap (λ (k : ℕ). take k (tabulate (λ i. f (params_in row (suc i))) m ++ drop m held)) (sym (length-tabulate (λ i. f (params_in row (suc i))) m))
      ∙ take-append_seam (tabulate (λ i. f (params_in row (suc i))) m) (drop m held)

-- a parameter whose width is no mark is told by its three numbers
whole : (edition : ℕ) (x : Option Place) (s t : ℕ) → s ≡ spn_in (with_width (width_by edition) x) → t ≡ start_in (with_width (width_by edition) x)
    → cond (eqb (marked_width (with_width (width_by edition) x)) mark) none (some (record { spn = s; start = t; width = marked_width (with_width (width_by edition) x) })) ≡ with_width (width_by edition) x
whole edition none s t e f = refl
whole edition (some y) s t e f = rw (e, f, ne_eqb (width_by edition y.spn) mark (omega (arith, width-most edition y.spn)))

-- the three lists stand for what the row says of each position up to n
module _ (row a b c : List ℕ) (n : ℕ) (long : (length a ≡ positions) × (length b ≡ positions) × (length c ≡ positions)) where
  abbrev spns : List ℕ
  spns = unfolded spn_in row (reach n) a

  abbrev starts : List ℕ
  starts = unfolded start_in row (reach n) b

  abbrev widths : List ℕ
  widths = unfolded marked_width row (reach n) c

  shortest-is : shortest spns starts widths ≡ positions
  shortest-is =
      let m = min-le_right n positions in
      rw (unfolded-length spn_in row (reach n) a long.0 m, unfolded-length start_in row (reach n) b long.1 m, unfolded-length marked_width row (reach n) c long.2 m)

  pub slices_are : (i : ℕ) → i < n → in_slices spns starts widths (suc i) ≡ params_in row (suc i)
  slices_are i h =
      elim (dec_lt i positions) [
        | yes l ↦ let m : i < reach n = below h l in
            slices_at spns starts widths i (rw shortest-is l)
            ∙ rw (unfolded-at marked_width row (reach n) c i 0 m)
            (whole (form_edition (form_word row)) (place_in row (suc i)) _ _ (unfolded-at spn_in row (reach n) a i 0 m) (unfolded-at start_in row (reach n) b i 0 m))
        | no l ↦ slices_past spns starts widths i (rw shortest-is (omega arith)) ∙ sym (past i (omega arith))
      ]
    where
      below : i < n → i < positions → i < reach n
      below h l =
          elim (dec_lt n positions) [
            | yes q ↦ let e : reach n ≡ n = min-eq_left (omega arith) in rw e h
            | no q ↦ let e : reach n ≡ positions = min-eq_right (omega arith) in rw e l
          ]

      past : (i : ℕ) → positions ≤ i → params_in row (suc i) ≡ none
      past i l = rw (le-leb 1 (suc i) (omega arith), lt-leb (suc i) positions (omega arith))

-- ---- the row's map

-- a row that is not free holds a map
pub row-held : (row : List ℕ) → is_held (row_map row) ≡ true
unfolding row_map
row-held row = go (eqb (state_word row) 1)
  where
    go : (b : Bool) → is_held (cond b (Held (head_of (form_word row)) (place_in row)) Conflict) ≡ true
    go true = refl
    go false = refl

-- so what the judge says of the lists is the judgement of what the row holds
pub row-judged : (row a b c spns starts widths : List ℕ) (n : ℕ) (transport : Bool) (j : Judged) → (length a ≡ positions) × (length b ≡ positions) × (length c ≡ positions)
    → n ≡ (head_of (form_word row)).n → transport ≡ (head_of (form_word row)).transport
    → spns ≡ unfolded_in spn_in row a → starts ≡ unfolded_in start_in row b → widths ≡ unfolded_in marked_width row c
    → j ≡ judge_over n transport (in_slices spns starts widths) → j ≡ judge (width_row row) (row_as row)
row-judged row a b c spns starts widths n transport j long en et es ess ew e =
    let h = head_of (form_word row) in
    e
    ∙ (λ k. judge_over (en k) (et k) (in_slices (es k) (ess k) (ew k)))
    ∙ judged-same h.n _ (params_in row) (slices_are row a b c h.n long) h.transport

-- and the judgement of its map, by its state
pub by_state : (row : List ℕ) (w j : Judged) → w ≡ judge (width_row row) (row_as row) → j ≡ cond (eqb (state_word row) 1) w (judged_at 1 0) → j ≡ judge (width_row row) (row_map row)
unfolding row_map
by_state row w j e q = q ∙ test (eqb (state_word row) 1) (λ t. rw t e) (λ f. rw f)

-- ---- the widths

-- what stands just behind a front of n numbers is what stood at n
past_front : (xs d : List ℕ) (n : ℕ) → length xs ≡ n → get_or (xs ++ drop n d) n 0 ≡ get_or d n 0
past_front xs d n e =
    ap (λ (k : ℕ). get_or (xs ++ drop n d) k 0) (sym (add-zero (length xs) ∙ e))
    ∙ get_or-append-add xs (drop n d) 0 0 ∙ get_or-drop n d 0 0 ∙ ap (λ (k : ℕ). get_or d k 0) (add-zero n)

-- a turn of `mark_missing`: what stands at index i is still what stood there
pub mark_turn : (row d xs : List ℕ) (i v : ℕ) → i < length d → xs ≡ marked_to row i d → v ≡ cond (eqb (get_or row (3 + i) 0) 0) mark (get_or xs i 0)
    → set xs i v ≡ marked_to row (i + 1) d
unfolding marked_to
mark_turn row d xs i v l e f =
    rw (f, e, still) (write_more (marked_at row d) i d l)
  where
    still : get_or (tabulate (marked_at row d) i ++ drop i d) i 0 ≡ get_or d i 0
    still = past_front (tabulate (marked_at row d) i) d i (length-tabulate (marked_at row d) i)

-- a front that holds what stood there changes nothing
same_front : (f : ℕ → ℕ) (n : ℕ) (d : List ℕ) → n ≤ length d → ((i : ℕ) → i < n → f i ≡ get_or d i 0) → tabulate f n ++ drop n d ≡ d
unfolding tabulate
same_front f zero d l h = refl
same_front f (suc n) [] l h = absurd (not-suc-le-zero l)
same_front f (suc n) (x ∷ d) l h =
    ap₂ (λ (y : ℕ) (t : List ℕ). y ∷ t) (h 0 (omega arith)) (same_front (λ k. f (suc k)) n d (le_of_suc-le-suc l) (λ i m. h (suc i) (omega arith)))

-- so where no cell is empty, no width is marked
pub none_marked : (row widths : List ℕ) (m : ℕ) → m ≤ length widths → any (empty_at row) m ≡ false → widths ≡ marked_to row m widths
unfolding marked_to
none_marked row widths m l e = sym (same_front (marked_at row widths) m widths l (λ i h. rw (any-each (empty_at row) m e i h)))

-- the widths of the first m SPNs by the row's edition, marked where nothing stands, are the row's own
module _ (row held : List ℕ) (m : ℕ) (l : m ≤ positions) (f : length held ≡ positions) where
  abbrev theirs : List ℕ
  theirs = tabulate (λ i. spn_in (params_in row (suc i))) m

  abbrev looked : List ℕ
  looked = tabulate (λ i. width_row row (get_or theirs i 0)) m ++ drop m held

  looked_is : widths_over (width_row row) theirs held ≡ looked
  unfolding widths_over
  looked_is =
      let far : min (length theirs) (length held) ≡ m = ap (λ (k : ℕ). min k (length held)) (length-tabulate _ m) ∙ min-eq_left (omega arith) in
      ap (λ (k : ℕ). tabulate (λ i. width_row row (get_or theirs i 0)) k ++ drop k held) far

  at : (i : ℕ) → i < m → marked_at row looked i ≡ marked_width (params_in row (suc i))
  at i h =
      ap (λ (w : ℕ). cond (eqb (get_or row (3 + i) 0) 0) mark w)
      (get_or-append (tabulate _ m) (drop m held) 0 i (rw length-tabulate h) ∙ get_tabulate _ m i h ∙ ap (width_row row) (get_tabulate _ m i h ∙ ap spn_in (sym (cell_at row i (omega arith)))))
      ∙ width_of-cell (width_row row) (get_or row (3 + i) 0) ∙ ap marked_width (cell_at row i (omega arith))

  pub widths-unfolded : (edition : ℕ) → edition ≡ form_edition (form_word row) → (spns : List ℕ) → spns ≡ theirs
      → marked_to row m (widths_over (width_by edition) spns held) ≡ unfolded marked_width row m held
  unfolding marked_to unfolded
  widths-unfolded edition q spns e =
      (λ i. marked_to row m (widths_over (width_by (q i)) (e i) held)) ∙ ap (marked_to row m) looked_is
      ∙ ap₂ ◌++◌ (tabulate_equal (marked_at row looked) _ m at) (drop_at (tabulate _ m) (drop m held) m (length-tabulate _ m))
