-- A row with another edition: it has that edition, and says all else that it said. On any words. Assumes nothing.
use Prim.Native.Nat.{ℕ, ◌+◌, ◌*◌, ◌-◌, ◌/◌, ◌%◌, ◌^◌, ◌<◌}
use native.Mathlib.Omega.{arith}
use mathlib.Core.Path.{◌≡◌, sym, ap, ◌∙◌, fun_ext}
use mathlib.Core.Bool.{cond}
use mathlib.Core.List.{List}
use borrow.Author.Tests.{leb-true}
use lib.Dec.{eqb, leb}
use lib.ListN.{length, length-set}
use lib.Seq.{get_or-set_same, get_or-set_other}
use Rattle.words.proofs.Tests.{test}
use Rattle.maps.specs.Maps.{Held}
use Rattle.keyrow.specs.Row.{state_word, key_word, form_word, cell_word, row_is}
use Rattle.keyrow.specs.View.{head_of, form_edition, with_edition, edited_row, place_in, row_as, row_map}

-- ---- a form

-- without its edition, and with 2004's
abbrev bare : ℕ → ℕ
bare f = f - f / 2 ^ 10 % 2 * 2 ^ 10

module _ (f : ℕ) where
  low_bare : (bare f % 2 ^ 10 ≡ f % 2 ^ 10) × ((bare f + 2 ^ 10) % 2 ^ 10 ≡ f % 2 ^ 10)
  low_bare = (omega arith, omega arith)

  high_bare : (bare f / 2 ^ 11 ≡ f / 2 ^ 11) × ((bare f + 2 ^ 10) / 2 ^ 11 ≡ f / 2 ^ 11)
  high_bare = (omega arith, omega arith)

  bit_bare : (bare f / 2 ^ 10 % 2 ≡ 0) × ((bare f + 2 ^ 10) / 2 ^ 10 % 2 ≡ 1)
  bit_bare = (omega arith, omega arith)

  module _ (e : ℕ) where
    -- the low ten bits, n and the flags, and every bit above the edition's are as they were
    pub low_edited : with_edition f e % 2 ^ 10 ≡ f % 2 ^ 10
    low_edited = test (eqb e 2004) (λ y. rw y low_bare.1) (λ n. rw n low_bare.0)

    pub high_edited : with_edition f e / 2 ^ 11 ≡ f / 2 ^ 11
    high_edited = test (eqb e 2004) (λ y. rw y high_bare.1) (λ n. rw n high_bare.0)

    -- and the edition is the one that was asked, 2010 where it is none of the two
    pub form_edited : form_edition (with_edition f e) ≡ cond (eqb e 2004) 2004 2010
    form_edited = test (eqb e 2004) (λ y. rw (y, bit_bare.1)) (λ n. rw (n, bit_bare.0))

-- n and the flags go by the low ten bits
low_8 : (x : ℕ) → x % 2 ^ 8 ≡ x % 2 ^ 10 % 2 ^ 8
low_8 x = omega arith

bit_8 : (x : ℕ) → x / 2 ^ 8 % 2 ≡ x % 2 ^ 10 / 2 ^ 8 % 2
bit_8 x = omega arith

bit_9 : (x : ℕ) → x / 2 ^ 9 % 2 ≡ x % 2 ^ 10 / 2 ^ 9 % 2
bit_9 x = omega arith

low_head : (f : ℕ) → head_of f ≡ head_of (f % 2 ^ 10)
low_head f = λ i. record { n = low_8 f i; proprietary = eqb (bit_8 f i) 1; transport = eqb (bit_9 f i) 1 }

pub head-edited : (f e : ℕ) → head_of (with_edition f e) ≡ head_of f
head-edited f e = low_head (with_edition f e) ∙ ap head_of (low_edited f e) ∙ sym (low_head f)

-- ---- a row

module _ (r : List ℕ) (e : ℕ) where
  pub edited-length : length (edited_row r e) ≡ length r
  unfolding edited_row
  edited-length = length-set r 2 (with_edition (form_word r) e)

  pub edited-state : state_word (edited_row r e) ≡ state_word r
  unfolding edited_row
  edited-state = get_or-set_other r 2 0 (with_edition (form_word r) e) 0 (omega arith)

  pub edited-key : key_word (edited_row r e) ≡ key_word r
  unfolding edited_row
  edited-key = get_or-set_other r 2 1 (with_edition (form_word r) e) 0 (omega arith)

  edited-cell : (p : ℕ) → 0 < p → cell_word (edited_row r e) p ≡ cell_word r p
  unfolding edited_row
  edited-cell p h = get_or-set_other r 2 (2 + p) (with_edition (form_word r) e) 0 (omega arith)

  pub edited-is : (a : ℕ) → row_is (edited_row r e) a ≡ row_is r a
  unfolding row_is
  edited-is a = rw (edited-state, edited-key)

  module _ (long : 2 < length r) where
    edited_form : form_word (edited_row r e) ≡ with_edition (form_word r) e
    unfolding edited_row
    edited_form = get_or-set_same r 2 (with_edition (form_word r) e) 0 long

    pub edited-edition : form_edition (form_word (edited_row r e)) ≡ cond (eqb e 2004) 2004 2010
    edited-edition = rw edited_form (form_edited (form_word r) e)

    edited-place : (p : ℕ) → place_in (edited_row r e) p ≡ place_in r p
    edited-place p =
        test (leb 1 p) (λ y. rw (y, edited-cell p (leb-true 1 p y))) (λ n. rw n)

    edited_as : row_as (edited_row r e) ≡ row_as r
    edited_as =
        let h = ap head_of edited_form ∙ head-edited (form_word r) e in
        λ i. Held (h i) (fun_ext edited-place i)

    -- "and nothing else of it": its map is as it was
    pub edited-map : row_map (edited_row r e) ≡ row_map r
    unfolding row_map
    edited-map = rw (edited-state, edited_as)
