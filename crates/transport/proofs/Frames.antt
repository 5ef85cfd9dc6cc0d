-- The two calls by the tests on their way. Assumes nothing.
use Prim.Native.Nat.{ℕ, ◌≤◌, ◌<◌}
use mathlib.Core.Path.{◌≡◌, refl, sym, ap, ap₂, ◌∙◌}
use mathlib.Core.Bool.{Bool, true, false, not}
use mathlib.Core.List.{List}
use borrow.Author.Tests.{lt-ltb, le-ltb}
use lib.Dec.{eqb}
use Rattle.words.specs.Rows.{put_at}
use Rattle.answers.specs.Answers.{Said, plain, Outcome, outcome}
use Rattle.answers.specs.Tests.{in_order, first_number_of}
use Rattle.answers.proofs.Tests.{then}
use Rattle.frame.specs.declared.Fields.{Fields}
use Rattle.frame.specs.Frame.{fields_of}
use Rattle.message.specs.Message.{served_tests}
use Rattle.session.specs.Session.{briefly}
use Rattle.session.specs.Cut.{size_said, pgn_said}
use Rattle.transport.specs.Rows.{Memory, row_with}
use native.Mathlib.Omega.{arith}
use Rattle.transport.specs.Calls.{request_pgn, packet_pgn, holder_in, request_tests, place_for, open_row, opens, requested, received, noted, takes_at, takes, arrived, number_said}
use Rattle.transport.specs.declared.Refusal.{Refusal}
use Rattle.transport.specs.declared.Refusal.TheVariants.{NotToSend, Mismatched, AllTaken}
use Rattle.std.specs.Prelude.{Err}
use Rattle.transport.proofs.Tests.{refused_by, passed_by_lem, one_does, none_does}

-- whether one of the tests of a frame applies
abbrev Refused : ℕ → ℕ → ℕ → Fields → Bool → Type 0
Refused pgn id len f b = b ≡ not (eqb (first_number_of (served_tests pgn id len f) 0) 0)

-- the number of the first that applies, by the fields that were cut out of its identifier
pub number_by : (pgn id len n : ℕ) (f : Fields) → f ≡ fields_of id → n ≡ first_number_of (served_tests pgn id len f) 0 → n ≡ first_number_of (served_tests pgn id len (fields_of id)) 0
number_by pgn id len n f split e = e ∙ ap (λ (x : Fields). first_number_of (served_tests pgn id len x) 0) split

-- the same by the fields that were cut out of its identifier
by_fields : (pgn id len : ℕ) (f : Fields) → f ≡ fields_of id → (b : Bool) → Refused pgn id len f b → Refused pgn id len (fields_of id) b
by_fields pgn id len f split b its = its ∙ ap (λ (g : Fields). not (eqb (first_number_of (served_tests pgn id len g) 0) 0)) split

-- ---- a request to send

-- a refusal has a number
pub refused-some : (r : Refusal) → number_said (Err r) ≡ 0 → ⊥
refused-some NotToSend e = absurd (omega (arith, e))
refused-some Mismatched e = absurd (omega (arith, e))
refused-some AllTaken e = absurd (omega (arith, e))

-- the row of a holder that has one, or the lowest of nobody's
module _ (heads : List ℕ) (holder i : ℕ) (its : i ≡ row_with heads holder) where
  pub own_place : i < 8 → i ≡ place_for heads holder
  unfolding place_for
  own_place h = rw (← its, lt-ltb i 8 h)

  pub free-place : 8 ≤ i → (k : ℕ) → k ≡ row_with heads 0 → k ≡ place_for heads holder
  unfolding place_for
  free-place h k e = rw (← its, le-ltb i 8 h) e

module _ (heads : List ℕ) (holder size pgn i : ℕ) (its : i ≡ place_for heads holder) where
  pub begun : i < 8 → (t : List ℕ) → t ≡ put_at 4 heads i (open_row holder size pgn) → outcome (plain 0) t ≡ opens heads holder size pgn
  unfolding opens
  begun h t e = rw (← its, lt-ltb i 8 h) (ap (outcome (plain 0)) e)

  pub is_30 : 8 ≤ i → outcome (plain 30) heads ≡ opens heads holder size pgn
  unfolding opens
  is_30 h = rw (← its, le-ltb i 8 h)

module _ (heads : List ℕ) (id len : ℕ) (d : List ℕ) (f : Fields) (split : f ≡ fields_of id) (b : Bool) (its : Refused request_pgn id len f b) where
  abbrev refuse : ℕ → Outcome
  refuse n = outcome (plain n) heads

  abbrev rest : Outcome
  rest = opens heads (holder_in (fields_of id)) (size_said d) (pgn_said d)

  in_two : in_order refuse (served_tests request_pgn id len (fields_of id)) (in_order refuse (request_tests d) rest) ≡ requested heads id len d
  unfolding requested
  in_two = sym (then refuse (served_tests request_pgn id len (fields_of id)) (request_tests d) rest)

  -- 1, 2 or 3
  pub frame_refused : b ≡ true → (bad : ℕ) → bad ≡ first_number_of (served_tests request_pgn id len (fields_of id)) 0 → (a : Said) → a ≡ plain bad → outcome a heads ≡ requested heads id len d
  frame_refused y bad told a e =
      ap (λ (x : Said). outcome x heads) e
      ∙ refused_by refuse (in_order refuse (request_tests d) rest) (served_tests request_pgn id len (fields_of id)) bad told
      (one_does (served_tests request_pgn id len (fields_of id)) b (by_fields request_pgn id len f split b its) y bad told)
      ∙ in_two

  module _ (none : b ≡ false) (wrong : ℕ) (told : wrong ≡ first_number_of (request_tests d) 0) where
    on : in_order refuse (request_tests d) rest ≡ requested heads id len d
    on =
        passed_by_lem refuse (in_order refuse (request_tests d) rest) (served_tests request_pgn id len (fields_of id)) tt 0
        (none_does (served_tests request_pgn id len (fields_of id)) b (by_fields request_pgn id len f split b its) none) refl
        ∙ in_two

    -- 24 or 31
    pub data_refused : (wrong ≡ 0 → ⊥) → (a : Said) → a ≡ plain wrong → outcome a heads ≡ requested heads id len d
    data_refused n a e = ap (λ (x : Said). outcome x heads) e ∙ refused_by refuse rest (request_tests d) wrong told n ∙ on

    -- 30, or the session begins
    pub asked : wrong ≡ 0 → (w size pgn : ℕ) → w ≡ holder_in f → size ≡ size_said d → pgn ≡ pgn_said d → (n : ℕ) (t : List ℕ) → outcome (plain n) t ≡ opens heads w size pgn
        → (a : Said) → a ≡ plain n → outcome a t ≡ requested heads id len d
    asked z w size pgn ew es ep n t o a e =
        ap (λ (x : Said). outcome x t) e ∙ o
        ∙ ap (λ (x : ℕ). opens heads x size pgn) (ew ∙ ap holder_in split)
        ∙ ap₂ (λ (x : ℕ) (y : ℕ). opens heads (holder_in (fields_of id)) x y) es ep
        ∙ passed_by_lem refuse rest (request_tests d) tt wrong told z ∙ on

-- ---- a packet

-- by the row of its holder
module _ (m : Memory) (out : List ℕ) (holder : ℕ) (d : List ℕ) (i : ℕ) (its : i ≡ row_with m.heads holder) where
  no_row : 8 ≤ i → noted (briefly 28) m out ≡ takes m out holder d
  unfolding takes
  no_row h = rw (← its, le-ltb i 8 h)

  in_row : i < 8 → takes_at m out i d ≡ takes m out holder d
  unfolding takes
  in_row h = rw (← its, lt-ltb i 8 h)

module _ (m : Memory) (out : List ℕ) (id len : ℕ) (d : List ℕ) (f : Fields) (split : f ≡ fields_of id) (b : Bool) (its : Refused packet_pgn id len f b) where
  -- 1, 2 or 3
  pub packet_refused : b ≡ true → (bad : ℕ) → bad ≡ first_number_of (served_tests packet_pgn id len (fields_of id)) 0 → (a : Said) (p : ℕ) → a ≡ plain bad → p ≡ 0 → received a p m out ≡ arrived m out id len d
  unfolding arrived
  packet_refused y bad told a p e z =
      (λ j. received (e j) (z j) m out)
      ∙ refused_by (λ k. noted (briefly k) m out) (takes m out (holder_in (fields_of id)) d) (served_tests packet_pgn id len (fields_of id)) bad
      told (one_does (served_tests packet_pgn id len (fields_of id)) b (by_fields packet_pgn id len f split b its) y bad told)

  module _ (none : b ≡ false) (w : ℕ) (ew : w ≡ holder_in f) (i : ℕ) (ei : i ≡ row_with m.heads w) where
    there : i ≡ row_with m.heads (holder_in (fields_of id))
    there = ei ∙ ap (row_with m.heads) (ew ∙ ap holder_in split)

    on_packet : takes m out (holder_in (fields_of id)) d ≡ arrived m out id len d
    unfolding arrived
    on_packet =
        passed_by_lem (λ k. noted (briefly k) m out) (takes m out (holder_in (fields_of id)) d) (served_tests packet_pgn id len (fields_of id)) tt 0
        (none_does (served_tests packet_pgn id len (fields_of id)) b (by_fields packet_pgn id len f split b its) none) refl

    -- 28
    pub is_28 : 8 ≤ i → (a : Said) (p : ℕ) → a ≡ plain 28 → p ≡ 0 → received a p m out ≡ arrived m out id len d
    is_28 h a p e z = (λ j. received (e j) (z j) m out) ∙ no_row m out (holder_in (fields_of id)) d i there h ∙ on_packet

    -- the row of its holder
    pub its_packet : i < 8 → takes_at m out i d ≡ arrived m out id len d
    its_packet h = in_row m out (holder_in (fields_of id)) d i there h ∙ on_packet
