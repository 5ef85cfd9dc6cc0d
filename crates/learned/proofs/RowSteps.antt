-- Whose row it is after a step: what learning, a new row and a freed row keep of that. Assumes nothing.
use Prim.Native.Nat.{ℕ, ◌+◌, ◌*◌, ◌/◌, ◌%◌, ◌≤◌, ◌<◌}
use native.Mathlib.Omega.{arith}
use mathlib.Core.Path.{◌≡◌, refl, sym, ◌∙◌}
use mathlib.Core.Bool.{Bool, true, false, cond}
use mathlib.Core.List.{List}
use lib.Dec.{eqb}
use lib.ListN.{length, get_or, set, replicate, length-set}
use lib.Seq.{get_or-set_same, get_or-set_other}
use Rattle.message.specs.declared.Head.{Head}
use Rattle.message.specs.declared.Message.{Message}
use Rattle.answers.specs.Answers.{outcome, plain}
use Rattle.keyrow.specs.Row.{row_words, key_number, one_if, form_number, cell_number, state_word, key_word, form_word, row_is}
use Rattle.keyrow.specs.View.{form_edition}
use Rattle.keyrow.specs.Learn.{learn_numbers, first_numbers, row_fits, learn_row, new_row}
use Rattle.keyrow.proofs.RowKeys.{is_held, held-is, free-is}

-- ---- a step on a row

module _ (r : List ℕ) (m : Message) where
  -- the words that a step leaves, whatever the tests answer
  abbrev stepped : Bool → Bool → List ℕ
  stepped s f =
      (cond s (cond f (outcome (plain 0) (set r (2 + m.position) (cell_number m.place))) (outcome (plain 10) (set r 0 2))) (outcome (plain 10) r)).memory

  pub learn_row-key : key_word (learn_row r m).memory ≡ key_word r
  unfolding learn_numbers
  learn_row-key = go (eqb (state_word r) 1) (row_fits r m)
    where
      go : (s f : Bool) → get_or (stepped s f) 1 0 ≡ get_or r 1 0
      go true true = get_or-set_other r (2 + m.position) 1 (cell_number m.place) 0 (omega arith)
      go true false = get_or-set_other r 0 1 2 0 (omega arith)
      go false f = refl

  -- a message never touches the form, and so not the edition: its cell lies behind it
  pub learn_row_form : 1 ≤ m.position → form_word (learn_row r m).memory ≡ form_word r
  unfolding learn_numbers
  learn_row_form first = go (eqb (state_word r) 1) (row_fits r m)
    where
      go : (s f : Bool) → get_or (stepped s f) 2 0 ≡ get_or r 2 0
      go true true = get_or-set_other r (2 + m.position) 2 (cell_number m.place) 0 (omega arith)
      go true false = get_or-set_other r 0 2 2 0 (omega arith)
      go false f = refl

  pub learn_row-length : length (learn_row r m).memory ≡ length r
  unfolding learn_numbers
  learn_row-length = go (eqb (state_word r) 1) (row_fits r m)
    where
      go : (s f : Bool) → length (stepped s f) ≡ length r
      go true true = length-set r (2 + m.position) (cell_number m.place)
      go true false = length-set r 0 2
      go false f = refl

  pub learn_row-is : (a : ℕ) → 0 < length r → row_is r a ≡ true → row_is (learn_row r m).memory a ≡ true
  unfolding learn_numbers
  learn_row-is a long h = held-is (learn_row r m).memory a (state (eqb (state_word r) 1) (row_fits r m)) (learn_row-key ∙ (is_held r a h).1)
    where
      state : (s f : Bool) → get_or (stepped s f) 0 0 ≡ 0 → ⊥
      state true true e = (is_held r a h).0 (sym (get_or-set_other r (2 + m.position) 0 (cell_number m.place) 0 (omega arith)) ∙ e)
      state true false e = omega (arith, e, get_or-set_same r 0 2 0 long)
      state false f e = (is_held r a h).0 e

-- "A fresh key has 2010": a form with n and the flags alone has no bit above them
form_bit : (n : ℕ) (p q : Bool) → n < 256 → (n + one_if p * 256 + one_if q * 512) / 1024 % 2 ≡ 0
form_bit n true true h = omega arith
form_bit n true false h = omega arith
form_bit n false true h = omega arith
form_bit n false false h = omega arith

pub form_fresh : (h : Head) → h.n < 256 → form_edition (form_number h) ≡ 2010
form_fresh h l = rw (form_bit h.n h.proprietary h.transport l)

-- ---- a new row

module _ (m : Message) where
  pub new_row-key : key_word (new_row m) ≡ key_number m.key
  unfolding first_numbers
  new_row-key =
      get_or-set_other (set (set (set (replicate row_words 0) 0 1) 1 (key_number m.key)) 2 (form_number m.head)) (2 + m.position) 1 (cell_number m.place) 0 (omega arith)

  new_row-state : state_word (new_row m) ≡ 1
  unfolding first_numbers
  new_row-state =
      get_or-set_other (set (set (set (replicate row_words 0) 0 1) 1 (key_number m.key)) 2 (form_number m.head)) (2 + m.position) 0 (cell_number m.place) 0 (omega arith)

  pub new_row_form : 1 ≤ m.position → form_word (new_row m) ≡ form_number m.head
  unfolding first_numbers
  new_row_form first =
      get_or-set_other (set (set (set (replicate row_words 0) 0 1) 1 (key_number m.key)) 2 (form_number m.head)) (2 + m.position) 2 (cell_number m.place) 0 (omega arith)

  pub new_row-length : length (new_row m) ≡ row_words
  unfolding first_numbers
  new_row-length = simp length-set

  pub new_row-is : row_is (new_row m) (key_number m.key) ≡ true
  new_row-is = held-is (new_row m) (key_number m.key) (λ e. omega (arith, e, new_row-state)) new_row-key

-- ---- a freed row

module _ (r : List ℕ) (long : length r ≡ row_words) where
  pub freed_length : length (set r 0 0) ≡ row_words
  freed_length = length-set r 0 0 ∙ long

  pub freed_is : (b : ℕ) → row_is (set r 0 0) b ≡ false
  freed_is b = free-is (set r 0 0) b (get_or-set_same r 0 0 0 (omega arith))
