-- One row as a map: the numbers in its words come apart again, and one message more makes of its map what `learned` says. On any words.
-- Assumes nothing.
use Prim.Native.Nat.{ℕ, ◌+◌, ◌-◌, ◌*◌, ◌/◌, ◌%◌, ◌^◌, ◌≤◌, ◌<◌}
use native.Mathlib.Omega.{arith}
use mathlib.Core.Path.{◌≡◌, refl, sym, ap, ◌∙◌, fun_ext}
use mathlib.Core.Logic.{◌⊎◌, inl, inr}
use mathlib.Core.Bool.{Bool, true, false, cond, ◌&&◌, ◌||◌}
use mathlib.Core.Option.{Option, none, some, some-injective}
use mathlib.Core.List.{List}
use borrow.Author.Tests.{eqb-true, eq-eqb, ne_eqb, eqb-false, le-leb, leb-true}
use lib.Dec.{eqb, leb}
use lib.ListN.{length, set, replicate}
use lib.Seq.{get_or-set_same, get_or-set_other}
use Rattle.message.specs.declared.Head.{Head}
use Rattle.message.specs.declared.Place.{Place}
use Rattle.message.specs.declared.Message.{Message}
use Rattle.maps.specs.Maps.{same_head, same_place, Nothing, Conflict, Held, agrees, places_with, agrees_with, learned, is_conflict}
use Rattle.words.proofs.Rows.{zeros}
use Rattle.words.proofs.Tests.{test, never}
use Rattle.maps.proofs.Tests.{head_eq, head-refl, place_eq, place-refl}
use Rattle.answers.specs.Answers.{plain}
use Rattle.keyrow.specs.Row.{positions, row_words, one_if, form_number, cell_number, key_number, InRow, state_word, form_word, cell_word}
use Rattle.keyrow.specs.View.{head_of, place_of, place_in, row_as, row_map}
use Rattle.keyrow.specs.Learn.{numbers_fit, learn_numbers, first_numbers, row_fits, learn_row, new_row}
use Rattle.keyrow.proofs.View.{row-conflict}

-- ---- a form

form_n : (n : ℕ) (p q : Bool) → n < 256 → (n + one_if p * 256 + one_if q * 512) % 256 ≡ n
form_n n true true h = omega arith
form_n n true false h = omega arith
form_n n false true h = omega arith
form_n n false false h = omega arith

form_p : (n : ℕ) (p q : Bool) → n < 256 → (n + one_if p * 256 + one_if q * 512) / 256 % 2 ≡ one_if p
form_p n true true h = omega arith
form_p n true false h = omega arith
form_p n false true h = omega arith
form_p n false false h = omega arith

form_q : (n : ℕ) (p q : Bool) → n < 256 → (n + one_if p * 256 + one_if q * 512) / 512 % 2 ≡ one_if q
form_q n true true h = omega arith
form_q n true false h = omega arith
form_q n false true h = omega arith
form_q n false false h = omega arith

flag : (b : Bool) → eqb (one_if b) 1 ≡ b
flag true = refl
flag false = refl

pub head_back : (h : Head) → h.n < 256 → head_of (form_number h) ≡ h
head_back h l =
    let a = form_n h.n h.proprietary h.transport l in
    let b = ap (λ (x : ℕ). eqb x 1) (form_p h.n h.proprietary h.transport l) ∙ flag h.proprietary in
    let c = ap (λ (x : ℕ). eqb x 1) (form_q h.n h.proprietary h.transport l) ∙ flag h.transport in
    λ i. record { n = a i; proprietary = b i; transport = c i }

bit_back : (x : ℕ) → x < 2 → one_if (eqb x 1) ≡ x
bit_back x h = test (eqb x 1) (λ t. rw t (sym (eqb-true x 1 t))) (λ f. rw f (go (eqb-false x 1 f)))
  where
    go : (x ≡ 1 → ⊥) → 0 ≡ x
    go ne = omega arith

pub form_back : (f : ℕ) → form_number (head_of f) ≡ f % 1024
form_back f = rw (bit_back (f / 256 % 2) (omega arith), bit_back (f / 512 % 2) (omega arith)) (omega arith)

-- two forms are one number exactly where the heads are the same
pub same_form : (f : ℕ) (h : Head) → h.n < 256 → eqb (f % 1024) (form_number h) ≡ same_head (head_of f) h
same_form f h l =
    test (same_head (head_of f) h)
    (λ t. rw t (eq-eqb _ _ (sym (form_back f) ∙ ap form_number (head_eq (head_of f) h t))))
    (λ n. rw n (ne_eqb _ _ (λ e. never (differ e) n)))
  where
    differ : f % 1024 ≡ form_number h → same_head (head_of f) h ≡ true
    differ e =
        let same : head_of f ≡ h = sym (head_back (head_of f) (omega arith)) ∙ ap head_of (form_back f ∙ e) ∙ head_back h l in
        rw same (head-refl h)

-- ---- a cell

pub place_back : (x : Place) → x.spn < 2 ^ 32 → place_of (cell_number x) ≡ some x
place_back x h =
    let a : (cell_number x - 1) % 2 ^ 32 ≡ x.spn = omega arith in
    let b : (cell_number x - 1) / 2 ^ 32 ≡ x.start = omega arith in
    rw (ne_eqb (cell_number x) 0 (omega arith)) (λ i. some (record { spn = a i; start = b i }))

cell_back : (c : ℕ) → (c ≡ 0 → ⊥) → cell_number (record { spn = (c - 1) % 2 ^ 32; start = (c - 1) / 2 ^ 32 }) ≡ c
cell_back c ne = omega arith

-- a cell is empty or one number with the message's exactly where nothing or the same stands there
pub same-cell : (c : ℕ) (x : Place) → x.spn < 2 ^ 32 → (eqb c 0 || eqb c (cell_number x)) ≡ agrees (place_of c) x
same-cell c x h = test (eqb c 0) (λ t. rw t) (λ n. rw n (go (eqb-false c 0 n)))
  where
    old : Place
    old = record { spn = (c - 1) % 2 ^ 32; start = (c - 1) / 2 ^ 32 }

    go : (c ≡ 0 → ⊥) → eqb c (cell_number x) ≡ same_place old x
    go ne =
        test (same_place old x)
        (λ t. rw t (eq-eqb _ _ (sym (cell_back c ne) ∙ ap cell_number (place_eq old x t))))
        (λ f. rw f (ne_eqb _ _ (λ e. never (ap (λ (y : Place). same_place y x) (same e) ∙ place-refl x) f)))
      where
        same : c ≡ cell_number x → old ≡ x
        same e = some-injective _ _ (sym (place_back old (omega arith)) ∙ ap place_of (cell_back c ne ∙ e) ∙ place_back x h)

-- ---- one message more

module _ (m : Message) (fit : InRow m) where
  -- what a row says of each position, once the cell of the message is stored
  stored : (r : List ℕ) → length r ≡ row_words → (q : ℕ) → place_in (set r (2 + m.position) (cell_number m.place)) q ≡ places_with (place_in r) m q
  stored r long q =
      test (eqb m.position q)
      (λ t. rw (t, ← (eqb-true m.position q t), le-leb 1 m.position fit.first, le-leb m.position positions fit.last)
      (ap place_of (get_or-set_same r (2 + m.position) (cell_number m.place) 0 (omega (arith, fit.last))) ∙ place_back m.place fit.spn))
      (λ n. rw (n, get_or-set_other r (2 + m.position) (2 + q) (cell_number m.place) 0 (other (eqb-false m.position q n))))
    where
      other : (m.position ≡ q → ⊥) → 2 + q ≡ 2 + m.position → ⊥
      other ne e = ne (omega arith)

  module _ (r : List ℕ) (long : length r ≡ row_words) where
    -- the message contradicts nothing of the row exactly where it contradicts nothing of the row's map
    row_fits_lem : row_fits r m ≡ agrees_with (head_of (form_word r)) (place_in r) m
    unfolding numbers_fit agrees_with
    row_fits_lem =
        rw (same_form (form_word r) m.head fit.n, same-cell (cell_word r m.position) m.place fit.spn, le-leb 1 m.position fit.first, le-leb m.position positions fit.last)

    held-step : eqb (state_word r) 1 ≡ true → learned (row_map r) m ≡ cond (row_fits r m) (Held (head_of (form_word r)) (places_with (place_in r) m)) Conflict
    unfolding row_map
    held-step t = rw (t, row_fits_lem)

    conflict-step : eqb (state_word r) 1 ≡ false → learned (row_map r) m ≡ Conflict
    unfolding row_map
    conflict-step n = rw n

    -- the row's map once the cell is stored, and once the conflict is marked
    with_cell : eqb (state_word r) 1 ≡ true → row_map (set r (2 + m.position) (cell_number m.place)) ≡ Held (head_of (form_word r)) (places_with (place_in r) m)
    unfolding row_map
    with_cell t =
        rw (get_or-set_other r (2 + m.position) 0 (cell_number m.place) 0 (omega arith), t, get_or-set_other r (2 + m.position) 2 (cell_number m.place) 0 (omega (arith, fit.first)))
        (ap (Held (head_of (form_word r))) (fun_ext (stored r long)))

    marked : row_map (set r 0 2) ≡ Conflict
    unfolding row_map
    marked = rw (get_or-set_same r 0 2 0 (omega arith))

    pub learn_row-map : row_map (learn_row r m).memory ≡ learned (row_map r) m
    unfolding learn_numbers
    learn_row-map =
        test (eqb (state_word r) 1)
        (λ t. rw (t, held-step t) (test (row_fits r m) (λ f. rw f (with_cell t)) (λ n. rw n marked)))
        (λ n. rw (n, conflict-step n) (row-conflict r (eqb-false (state_word r) 1 n)))

    pub learn_row-answer : (learn_row r m).answer ≡ plain (cond (is_conflict (learned (row_map r) m)) 10 0)
    unfolding learn_numbers
    learn_row-answer =
        test (eqb (state_word r) 1)
        (λ t. rw (t, held-step t) (test (row_fits r m) (λ f. rw f) (λ n. rw n)))
        (λ n. rw (n, conflict-step n))

-- ---- the first message

-- a row with no cell
abbrev bare : Message → List ℕ
bare m = set (set (set (replicate row_words 0) 0 1) 1 (key_number m.key)) 2 (form_number m.head)

no_cell : (m : Message) (q : ℕ) → 1 ≤ q → cell_word (bare m) q ≡ 0
no_cell m q h =
    get_or-set_other (set (set (replicate row_words 0) 0 1) 1 (key_number m.key)) 2 (2 + q) (form_number m.head) 0 (omega arith)
    ∙ get_or-set_other (set (replicate row_words 0) 0 1) 1 (2 + q) (key_number m.key) 0 (omega arith)
    ∙ get_or-set_other (replicate row_words 0) 0 (2 + q) 1 0 (omega arith)
    ∙ zeros row_words (2 + q)

no_place : (m : Message) (q : ℕ) → place_in (bare m) q ≡ none
no_place m q =
    test (leb 1 q) (λ t. rw (t, no_cell m q (leb-true 1 q t)) (test (leb q positions) (λ u. rw u) (λ n. rw n))) (λ n. rw n)

pub new_row-map : (m : Message) → InRow m → row_map (new_row m) ≡ learned Nothing m
unfolding first_numbers
new_row-map m fit =
    with_cell m fit (bare m) refl refl
    ∙ rw (head_back m.head fit.n) (ap (λ (at : ℕ → Option Place). Held m.head (places_with at m)) (fun_ext (no_place m)))

-- ---- a row in conflict, read as if it were held

-- marking the conflict changes the state word alone
as_marked : (r : List ℕ) → row_as (set r 0 2) ≡ row_as r
as_marked r =
    let f : form_word (set r 0 2) ≡ form_word r = get_or-set_other r 0 2 2 0 (omega arith) in
    let c : (q : ℕ) → place_in (set r 0 2) q ≡ place_in r q =
    λ q. ap (λ (x : ℕ). cond (leb 1 q && leb q positions) (place_of x) none) (get_or-set_other r 0 (2 + q) 2 0 (omega arith)) in
    λ i. Held (head_of (f i)) (fun_ext c i)

-- so a message leaves what the row says read so, or the row is held before and after it: of a row in conflict it is the map before the contradiction
pub as_kept : (r : List ℕ) (m : Message) → (row_as (learn_row r m).memory ≡ row_as r) ⊎ ((state_word r ≡ 1) × (state_word (learn_row r m).memory ≡ 1))
unfolding learn_numbers
as_kept r m =
    test (eqb (state_word r) 1)
    (λ t. rw t
    (test (row_fits r m)
    (λ y. rw y (inr (eqb-true _ 1 t, get_or-set_other r (2 + m.position) 0 (cell_number m.place) 0 (omega arith) ∙ eqb-true _ 1 t)))
    (λ n. rw n (inl (as_marked r)))))
    (λ f. rw f (inl refl))
