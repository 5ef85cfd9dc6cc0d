-- Pieces of a body laid one after another, and which keys are saved. Assumes nothing.
use Prim.Native.Nat.{ℕ, zero, suc, ◌+◌, ◌≤◌}
use native.Mathlib.Nat.{not-suc-le-zero}
use mathlib.Core.Path.{◌≡◌, refl, sym, ap, ◌∙◌}
use mathlib.Core.Bool.{true, false, ◌&&◌}
use mathlib.Core.Option.{Option, none, some}
use mathlib.Core.List.{List, [], ◌∷◌}
use native.Mathlib.Decide.{dec_lt}
use native.Mathlib.Omega.{arith}
use borrow.Author.Tests.{eqb-true, eqb-false, lt-ltb, le-ltb}
use lib.Dec.{eqb, leb}
use lib.ListN.{length, get_or}
use Rattle.words.proofs.Tests.{test, never}
use Rattle.answers.specs.declared.Answer.{Answer}
use Rattle.answers.specs.Answers.{Said, said_of, in_numbers}
use Rattle.text.specs.declared.Page.{Page as Lent}
use Rattle.text.specs.Page.{Laid}
use Rattle.text.specs.Text.{Page, put_all}
use Rattle.text.proofs.Laid.{none as nothing_laid, equal}
use Rattle.message.specs.declared.Head.{Head}
use Rattle.message.specs.declared.Place.{Place}
use Rattle.maps.specs.Maps.{Map, Nothing, Conflict, Held}
use Rattle.judge.specs.Judge.{usable}
use Rattle.message.specs.declared.Key.{Key}
use Rattle.history.specs.History.{most_keys}
use Rattle.lookup.specs.Layout.{table_words, slot_of, row_of}
use Rattle.lookup.specs.View.{map_in, row_for}
use Rattle.lookup.proofs.Words.{row-length}
use Rattle.lookup.proofs.KeyRow.{its_map}
use Rattle.keyrow.specs.Row.{key_number, state_word, form_word}
use Rattle.keyrow.specs.View.{head_of, place_of, spn_there, start_there, place_in, row_map}
use Rattle.keyrow.proofs.View.{row-held, row-conflict}
use Rattle.open.specs.Open.{judged_by}
use Rattle.written.specs.Written.{five_of}
use Rattle.image.specs.Write.{place_or, is_saved}
use Rattle.save.specs.Pieces.{body_pieces, map_pieces}

-- what judging answers says whether a key is saved
pub saved_is : (width_of : ℕ → ℕ) (M : Map) (a : Answer) → in_numbers a ≡ judged_by width_of M → (eqb a.number 0 && eqb (said_of a.judgement).number 0) ≡ usable width_of M
unfolding judged_by
saved_is width_of M a e = ap (λ (s : Said). eqb s.number 0 && eqb s.judgement 0) e ∙ go M
  where
    go : (M : Map) → (eqb (judged_by width_of M).number 0 && eqb (judged_by width_of M).judgement 0) ≡ usable width_of M
    go Nothing = refl
    go Conflict = refl
    go (Held h places) = refl

-- what a cell says, by SPN and start
pub place_there : (o : Option Place) (spn start : ℕ) → spn ≡ spn_there o → start ≡ start_there o → record { spn = spn; start = start } ≡ place_or o
place_there none spn start e f = λ i. record { spn = e i; start = f i }
place_there (some x) spn start e f = λ i. record { spn = e i; start = f i }

-- the cell of a position
module _ (r : List ℕ) (p : ℕ) where
  pub cell_there : (leb 1 p && leb p 64) ≡ true → place_of (get_or r (2 + p) 0) ≡ place_in r p
  cell_there e = rw e

  pub cell_none : (leb 1 p && leb p 64) ≡ false → place_of 0 ≡ place_in r p
  cell_none e = rw e

-- ---- a body, piece by piece

module _ (h : Head) (places : ℕ → Option Place) where
  pub body_turn : (q : Page) (p p' n m : ℕ) (five : List ℕ) (r : Page) → n ≡ suc m → p' ≡ suc p → five ≡ five_of h p (place_or (places p)) → r ≡ put_all q (five ∷ [])
      → put_all r (body_pieces h places p' m) ≡ put_all q (body_pieces h places p n)
  unfolding put_all body_pieces
  body_turn q p p' n m five r e f g i = rw (e, f, i, g)

  pub body_end : (q : Page) (p n : ℕ) → n ≤ 0 → q ≡ put_all q (body_pieces h places p n)
  unfolding put_all body_pieces
  body_end q p zero l = refl
  body_end q p (suc n) l = absurd (not-suc-le-zero l)

-- ---- the body of a key

module _ (M : Map) where
  pub saved_none : (q : Lent) → M ≡ Nothing → Laid q q (map_pieces M)
  saved_none q e = rw e (nothing_laid q)

  pub saved_held : (width_of : ℕ → ℕ) (row : List ℕ) (q r : Lent) → usable width_of M ≡ true → M ≡ row_map row
      → Laid q r (body_pieces (head_of (form_word row)) (place_in row) 1 (head_of (form_word row)).n) → Laid q r (map_pieces M)
  saved_held width_of row q r u e w =
      test (eqb (state_word row) 1)
      (λ y. let m : M ≡ Held (head_of (form_word row)) (place_in row) = e ∙ row-held row (eqb-true (state_word row) 1 y) in
      equal (ap map_pieces (sym m)) w)
      (λ z. never u (ap (usable width_of) (e ∙ row-conflict row (eqb-false (state_word row) 1 z))))

-- a key that is saved has a row, and its map is the row's
pub its_saved : (t : List ℕ) (k : Key) (row : List ℕ) → length t ≡ table_words → row ≡ row_for t k → is_saved t k ≡ true → map_in t k ≡ row_map row
unfolding row_for map_in
its_saved t k row long its u =
    elim (dec_lt (slot_of t (key_number k)) most_keys) [
      | yes l ↦ let e : row ≡ row_of t (slot_of t (key_number k)) = rw (lt-ltb (slot_of t (key_number k)) most_keys l) at its in
          its_map t k row (ap length e ∙ row-length t long (slot_of t (key_number k)) l) its
      | no n ↦ never u (rw (le-ltb (slot_of t (key_number k)) most_keys (omega arith)) refl)
    ]
