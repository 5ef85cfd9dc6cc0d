-- The calls' answers by the tests that led there, over any map and any dictionary. Assumes nothing.
use Prim.Native.Nat.{ℕ, ◌≤◌, ◌<◌}
use mathlib.Core.Path.{◌≡◌, refl, sym, ap, ◌∙◌}
use mathlib.Core.Bool.{Bool, true, false, cond, not, ◌&&◌, ◌||◌, or-true}
use mathlib.Core.List.{List, ◌++◌}
use lib.Dec.{eqb, ltb}
use lib.ListN.{length, take, drop}
use native.Mathlib.Omega.{arith}
use borrow.Author.Tests.{eq-eqb, ne_eqb, ltb-false, lt-ltb, le-ltb}
use Rattle.answers.specs.Answers.{Said, at, plain, done, unusable, outcome}
use Rattle.payload.specs.declared.Unlaid.{Unlaid}
use Rattle.std.specs.Prelude.{Result}
use Rattle.payload.specs.Calls.{Left, left, too_wide_in, packing, reading}
use Rattle.payload.proofs.Laws.{read_length}
use Rattle.states.specs.States.{states_over}
use Rattle.states.proofs.States.{states-first}
use Rattle.maps.specs.Maps.{Map, Nothing, Conflict, Held}
use Rattle.judge.specs.Judge.{start_in, width_in, judge, usable, count_of, params_of, starts_of, widths_of, length_of}
use Rattle.judge.proofs.Judged.{lists_length, usable_placed}
use Rattle.answers.specs.Tests.{Test, in_order}
use Rattle.words.proofs.Tests.{test}
use Rattle.open.specs.Open.{is_held, judged_by}
use Rattle.ask.specs.Ask.{key_tests, pack_tests, pack_done, packed_by, reads, read_tests, numbers_in, read_done, read_by, not_found, position_of, find_tests, found_by, nowhere, stands_by}
use Rattle.ask.specs.Parts.{ready_by, Refused, InHand, said_by, as_outcome, with_states, read_with}

module _ (width_of : ℕ → ℕ) (m : Map) where
  -- usable is held with judgement 0
  pub usable-is : usable width_of m ≡ is_held m && eqb (judge width_of m).number 0
  usable-is = by_cases m
    where
      by_cases : (m : Map) → usable width_of m ≡ is_held m && eqb (judge width_of m).number 0
      by_cases Nothing = refl
      by_cases Conflict = refl
      by_cases (Held h places) = refl

  pub held-usable : is_held m ≡ true → (judge width_of m).number ≡ 0 → usable width_of m ≡ true
  held-usable h e = rw (usable-is, h) (eq-eqb (judge width_of m).number 0 e)

  pub usable-held : usable width_of m ≡ true → is_held m ≡ true
  usable-held u = go (is_held m) (sym usable-is ∙ u)
    where
      go : (b : Bool) → b && eqb (judge width_of m).number 0 ≡ true → b ≡ true
      go true e = refl
      go false e = e

  -- of the two tests that pack, read and find begin with, the second alone applies to a map that is held with another judgement than 0
  pub key_bad : is_held m ≡ true → ((judge width_of m).number ≡ 0 → ⊥) → (not (is_held m) ≡ false) × (not (usable width_of m) ≡ true)
  key_bad h n =
      let z : usable width_of m ≡ false = usable-is ∙ rw (h, ne_eqb (judge width_of m).number 0 n) in (ap not h, ap not z)

-- ---- by what judging answered

-- the three cases of `ready`
pub ready_11 : (a : Said) → (a.number ≡ 0 → ⊥) → Refused a (ready_by a)
unfolding ready_by
ready_11 a n = record { same = rw (ne_eqb a.number 0 n); refuses = n }

module _ (a : Said) (n : ℕ) (z : a.number ≡ 0) (e : n ≡ a.judgement) where
  pub ready_12 : (r : Said) → (n ≡ 0 → ⊥) → r ≡ unusable (at a.judgement a.position) → Refused r (ready_by a)
  unfolding ready_by
  ready_12 r h f = record {
    same = rw (eq-eqb a.number 0 z, ne_eqb a.judgement 0 (λ q. h (e ∙ q))) f;
    refuses = λ q. let w = ap (λ (x : Said). x.number) f in omega (arith, w, q);
  }

  pub ready_0 : n ≡ 0 → ready_by a ≡ plain 0
  unfolding ready_by
  ready_0 h = rw (eq-eqb a.number 0 z, eq-eqb a.judgement 0 (sym e ∙ h))

module _ (width_of : ℕ → ℕ) (m : Map) where
  -- the tests 11 and 12 are those of the calls
  ready_is : {B : Type 0} (refuse : Said → B) (rest : B) → ((ready_by (judged_by width_of m)).number ≡ 0 → ⊥)
      → (later : List (Test Said)) → refuse (ready_by (judged_by width_of m)) ≡ in_order refuse (key_tests width_of m ++ later) rest
  unfolding ready_by judged_by
  ready_is refuse rest n later =
      test (is_held m)
      (λ h. test (eqb (judge width_of m).number 0) (λ z. absurd (n (rw (h, z)))) (λ f. rw (usable-is width_of m, h, f)))
      (λ h. rw h)

  -- 0 is given exactly to a usable map
  pub ready_usable : (ready_by (judged_by width_of m)).number ≡ 0 → usable width_of m ≡ true
  unfolding ready_by judged_by
  ready_usable e =
      test (is_held m)
      (λ h. test (eqb (judge width_of m).number 0) (λ z. rw (usable-is width_of m, h, z)) (λ f. let q : 12 ≡ 0 = rw (h, f) at e in absurd (omega (arith, q))))
      (λ h. let q : 11 ≡ 0 = rw h at e in absurd (omega (arith, q)))

  -- by the answer of judging
  pub refused_is : (a : Said) → a ≡ judged_by width_of m → (r : Said) → Refused r (ready_by a) → Refused r (ready_by (judged_by width_of m))
  refused_is a e r h = record { same = h.same ∙ ap ready_by e; refuses = h.refuses }

  pub ready_good : (a : Said) → a ≡ judged_by width_of m → ready_by a ≡ plain 0 → usable width_of m ≡ true
  ready_good a e z = ready_usable (ap (λ (s : Said). (ready_by s).number) (sym e) ∙ ap (λ (s : Said). s.number) z)

  module _ (a : Said) (h : Refused a (ready_by (judged_by width_of m))) where
    n : (ready_by (judged_by width_of m)).number ≡ 0 → ⊥
    n = rw h.same at h.refuses

    pub pack_unready : (numbers out : List ℕ) → outcome a out ≡ packed_by width_of m numbers out
    unfolding packed_by
    pack_unready numbers out = rw h.same (ready_is (λ x. outcome x out) (pack_done width_of m numbers out) n (pack_tests width_of m numbers out))

    pub read_unready : (payload room states : List ℕ) → reads a room states ≡ read_by width_of m payload room states
    unfolding read_by
    read_unready payload room states =
        rw h.same (ready_is (λ x. reads x room states) (read_done width_of m payload room states) n (read_tests width_of m payload room states))

    pub find_unready : (spn : ℕ) → not_found a ≡ found_by width_of m spn
    unfolding found_by
    find_unready spn = rw h.same (ready_is not_found _ n (find_tests width_of m spn))

-- a key that is not held has nothing at any position
pub stands_none : (width_of : ℕ → ℕ) (m : Map) (a : Said) → is_held m ≡ false → a ≡ plain 11 → (p : ℕ) → nowhere a ≡ stands_by width_of m p
unfolding stands_by
stands_none width_of m a h e p = rw (e, h)

-- a map that is not usable
module _ (width_of : ℕ → ℕ) (m : Map) (h : is_held m ≡ true) (n : (judge width_of m).number ≡ 0 → ⊥) where
  pub pack_bad : (numbers out : List ℕ) → packed_by width_of m numbers out ≡ outcome (unusable (judge width_of m)) out
  unfolding packed_by
  pack_bad numbers out = rw ((key_bad width_of m h n).0, (key_bad width_of m h n).1)

  pub read_bad : (payload room states : List ℕ) → read_by width_of m payload room states ≡ reads (unusable (judge width_of m)) room states
  unfolding read_by
  read_bad payload room states = rw ((key_bad width_of m h n).0, (key_bad width_of m h n).1)

  pub find_bad : (spn : ℕ) → found_by width_of m spn ≡ not_found (unusable (judge width_of m))
  unfolding found_by
  find_bad spn = rw ((key_bad width_of m h n).0, (key_bad width_of m h n).1)

-- what payload leaves, as an outcome, test by test
as_two : (a b : Bool) (x y z : Left) → as_outcome (cond a x (cond b y z)) ≡ cond a (as_outcome x) (cond b (as_outcome y) (as_outcome z))
as_two true b x y z = refl
as_two false true x y z = refl
as_two false false x y z = refl

as_one : (a : Bool) (x y : Left) → as_outcome (cond a x y) ≡ cond a (as_outcome x) (as_outcome y)
as_one true x y = refl
as_one false x y = refl

-- reading by lists, with the states, by the tests that led there
module _ (starts widths payload room states : List ℕ) where
  pub with_short : length states < length starts → (a : Said) → a ≡ plain 13 → reads a room states ≡ read_with starts widths payload room states
  unfolding read_with
  with_short s a e = rw (lt-ltb (length states) (length starts) s, e)

  module _ (s : length starts ≤ length states) (laying : Result ℕ Unlaid) (a : Said) (e : a ≡ said_by laying) (left_in : List ℕ) (f : left laying left_in ≡ reading starts widths payload room) where
    told : outcome a left_in ≡ as_outcome (reading starts widths payload room)
    told = ap (λ (x : Said). outcome x left_in) e ∙ ap as_outcome f

    pub with_refused_lem : (a.number ≡ 0 → ⊥) → reads a left_in states ≡ read_with starts widths payload room states
    unfolding read_with with_states
    with_refused_lem n =
        let h : reads a left_in states ≡ with_states widths states (outcome a left_in) = rw (ne_eqb a.number 0 n) in
        rw (le-ltb (length states) (length starts) s) (h ∙ ap (with_states widths states) told)

    pub with_done : a.number ≡ 0 → (laid : List ℕ) → laid ≡ states_over widths left_in states → reads a left_in laid ≡ read_with starts widths payload room states
    unfolding read_with with_states
    with_done z laid g =
        let h : reads a left_in laid ≡ with_states widths states (outcome a left_in) = rw (eq-eqb a.number 0 z, g) in
        rw (le-ltb (length states) (length starts) s) (h ∙ ap (with_states widths states) told)

-- where payload's lists are a usable map's, its calls never find a position without a place (`usable_placed`), and tell what 01 asks
module _ (width_of : ℕ → ℕ) (most : (x : ℕ) → width_of x ≤ 32) (m : Map) (u : usable width_of m ≡ true) (few : count_of m ≤ 64) where
  packing-is : (numbers out : List ℕ) → as_outcome (packing (starts_of width_of m) (widths_of width_of m) numbers out) ≡ packed_by width_of m numbers out
  unfolding packing packed_by
  packing-is numbers out =
      rw (usable_placed width_of m u most few, (lists_length width_of m).1)
      (as_two (not (eqb (length numbers) (count_of m)) || ltb (length out) (length_of width_of m)) (ltb 0 (too_wide_in (widths_of width_of m) numbers)) _ _ _
      ∙ rw (usable-held width_of m u, u))

  -- whether the payload or the room for numbers has the wrong length: what payload's call tests
  abbrev misfits : List ℕ → List ℕ → Bool
  misfits payload room = not (eqb (length payload) (length_of width_of m)) || ltb (length room) (count_of m)

  reading-is : (payload room : List ℕ) → as_outcome (reading (starts_of width_of m) (widths_of width_of m) payload room)
      ≡ cond (misfits payload room) (outcome (plain 13) room) (outcome (done (count_of m)) (numbers_in width_of m payload ++ drop (count_of m) room))
  unfolding reading
  reading-is payload room =
      rw (usable_placed width_of m u most few, (lists_length width_of m).1) (as_one (misfits payload room) _ _)

  -- with the states, where there is room for them: payload's tests decide
  told-states : (payload room states : List ℕ) → ltb (length states) (count_of m) ≡ false
      → with_states (widths_of width_of m) states (cond (misfits payload room) (outcome (plain 13) room) (outcome (done (count_of m)) (numbers_in width_of m payload ++ drop (count_of m) room)))
      ≡ read_by width_of m payload room states
  unfolding with_states read_by
  told-states payload room states s =
      test (misfits payload room) (λ y. rw (y, usable-held width_of m u, u))
      (λ y. rw (y, s, usable-held width_of m u, u)
      (ap (reads (done (count_of m)) (numbers_in width_of m payload ++ drop (count_of m) room))
      (states-first (widths_of width_of m) (numbers_in width_of m payload) (drop (count_of m) room) states (count_of m) (lists_length width_of m).2
      (read_length (starts_of width_of m) (widths_of width_of m) payload ∙ (lists_length width_of m).1) (ltb-false _ _ s))))

  -- and where there is none: 13
  no_states : (payload room states : List ℕ) → ltb (length states) (count_of m) ≡ true → reads (plain 13) room states ≡ read_by width_of m payload room states
  unfolding read_by
  no_states payload room states s = rw (s, usable-held width_of m u, u, or-true (misfits payload room))

  with_is : (payload room states : List ℕ) → read_with (starts_of width_of m) (widths_of width_of m) payload room states ≡ read_by width_of m payload room states
  unfolding read_with
  with_is payload room states =
      test (ltb (length states) (count_of m)) (λ s. rw ((lists_length width_of m).1, s) (no_states payload room states s))
      (λ s. rw ((lists_length width_of m).1, s) (ap (with_states (widths_of width_of m) states) (reading-is payload room) ∙ told-states payload room states s))

-- a usable map in hand: payload's calls go by its lists
module _ (width_of : ℕ → ℕ) (m : Map) (n : ℕ) (starts widths : List ℕ) (h : InHand width_of m n starts widths) where
  module _ (most : (x : ℕ) → width_of x ≤ 32) where
    few : count_of m ≤ 64
    few = omega (arith, h.count, h.few)

    pub pack_told : (laying : Result ℕ Unlaid) (b : Said) → b ≡ said_by laying → (numbers out held : List ℕ)
        → left laying out ≡ packing (take n starts) (take n widths) numbers held → outcome b out ≡ packed_by width_of m numbers held
    pack_told laying b e numbers out held f =
        ap (λ (x : Said). outcome x out) e ∙ ap as_outcome f ∙ rw (h.starts-are, h.widths-are) (packing-is width_of most m h.good few numbers held)

    pub read_told : (payload room states : List ℕ) → read_with (take n starts) (take n widths) payload room states ≡ read_by width_of m payload room states
    read_told payload room states = rw (h.starts-are, h.widths-are) (with_is width_of most m h.good few payload room states)

-- finding in a usable map
module _ (width_of : ℕ → ℕ) (m : Map) (u : usable width_of m ≡ true) (spn : ℕ) (a : Said) (p : ℕ) (its : position_of width_of m spn ≡ p) where
  pub find_absent : p ≡ 0 → a ≡ plain 18 → not_found a ≡ found_by width_of m spn
  unfolding found_by
  find_absent z e = rw (e, usable-held width_of m u, u, eq-eqb (position_of width_of m spn) 0 (its ∙ z))

  pub find_here : (p ≡ 0 → ⊥) → a ≡ plain 0 → (start width : ℕ) → start ≡ start_in (params_of width_of m p) → width ≡ width_in (params_of width_of m p)
      → record { answer = a; position = p; start = start; width = width } ≡ found_by width_of m spn
  unfolding found_by
  find_here n e start width f g = rw (e, f, g, usable-held width_of m u, u, ne_eqb (position_of width_of m spn) 0 (λ z. n (sym its ∙ z)), its)
