-- A request's answer by the tests that led there. Assumes nothing.
use Prim.Native.Nat.{ℕ}
use mathlib.Core.Path.{◌≡◌, refl, ap, ◌∙◌}
use mathlib.Core.Bool.{Bool, true, false, not}
use mathlib.Core.List.{List, [], ◌∷◌}
use native.Mathlib.Omega.{arith}
use borrow.Author.Tests.{eq-eqb, ne_eqb}
use lib.Dec.{eqb, ltb}
use Rattle.answers.specs.Answers.{Said, plain, Outcome, outcome}
use Rattle.answers.specs.Tests.{Test, ◌when◌, first_number_of, tested}
use Rattle.frame.specs.declared.Fields.{Fields}
use Rattle.frame.specs.Frame.{greatest_identifier, fields_of, pgn_of, destination_of}
use Rattle.message.specs.declared.Key.{Key}
use Rattle.message.specs.declared.Message.{Message}
use Rattle.message.specs.Message.{byte, served_tests}
use Rattle.locate.specs.Locate.{spn_asked, is_ours, located, answers_to, room_tests, lay_done, located_by}
use Rattle.locate.specs.Parts.{laid_out}

-- ---- the three tests of the identifier and the length, and those that come after them

module _ (log : List ℕ) (later : List (Test Said)) (rest : Outcome) where
  abbrev faults : Bool → Bool → Bool → List (Test ℕ)
  faults a b c = 1 when a ∷ 2 when b ∷ 3 when c ∷ []

  abbrev tests : Bool → Bool → Bool → List (Test Said)
  tests a b c = plain 1 when a ∷ plain 2 when b ∷ plain 3 when c ∷ later

  -- one of the three applies
  refused : (a b c : Bool) (n : ℕ) → n ≡ first_number_of (faults a b c) 0 → (n ≡ 0 → ⊥) → outcome (plain n) log ≡ tested (tests a b c) log rest
  refused true b c n e h = ap (λ (x : ℕ). outcome (plain x) log) e
  refused false true c n e h = ap (λ (x : ℕ). outcome (plain x) log) e
  refused false false true n e h = ap (λ (x : ℕ). outcome (plain x) log) e
  refused false false false n e h = absurd (h e)

  -- none of them does
  passed : (a b c : Bool) (n : ℕ) → n ≡ first_number_of (faults a b c) 0 → n ≡ 0 → tested later log rest ≡ tested (tests a b c) log rest
  passed true b c n e z = absurd (omega (arith, e, z))
  passed false true c n e z = absurd (omega (arith, e, z))
  passed false false true n e z = absurd (omega (arith, e, z))
  passed false false false n e z = refl

-- ---- the call

module _ (width_of : Key → ℕ → ℕ) (t : List ℕ) (own id len : ℕ) (d log : List ℕ) (start : ℕ) (f : Fields) (split : f ≡ fields_of id) where
  -- by what the identifier and the length gave
  module _ (bad : ℕ) (its : bad ≡ first_number_of (served_tests 44800 id len f) 0) where
    faults_are : bad ≡ first_number_of (served_tests 44800 id len (fields_of id)) 0
    faults_are = its ∙ ap (λ (x : Fields). first_number_of (served_tests 44800 id len x) 0) split

    abbrev later : List (Test Said)
    later = plain 24 when not (eqb (byte d 8) 0) ∷ room_tests (answers_to width_of t own id d) log start

    abbrev rest : Outcome
    rest = lay_done (answers_to width_of t own id d) log start

    -- 1, 2 or 3
    pub at-frame : (bad ≡ 0 → ⊥) → (a : Said) → a ≡ plain bad → outcome a log ≡ located_by width_of t own id len d log start
    unfolding located_by
    at-frame n a e =
        ap (λ (x : Said). outcome x log) e
        ∙ refused log later rest (ltb greatest_identifier id) (not (eqb (pgn_of (fields_of id)) 44800)) (not (eqb len 8)) bad faults_are n

    module _ (zero : bad ≡ 0) where
      on : tested later log rest ≡ located_by width_of t own id len d log start
      unfolding located_by
      on = passed log later rest (ltb greatest_identifier id) (not (eqb (pgn_of (fields_of id)) 44800)) (not (eqb len 8)) bad faults_are zero

      -- 24
      pub at_command : (byte d 8 ≡ 0 → ⊥) → (a : Said) → a ≡ plain 24 → outcome a log ≡ located_by width_of t own id len d log start
      at_command n a e = ap (λ (x : Said). outcome x log) e ∙ given ∙ on
        where
          given : outcome (plain 24) log ≡ tested later log rest
          given = rw (ne_eqb (byte d 8) 0 n)

      -- 13, or the records
      pub at_log : byte d 8 ≡ 0 → (o : Outcome) (ms : List Message) → o ≡ laid_out ms log start → ms ≡ answers_to width_of t own id d → o ≡ located_by width_of t own id len d log start
      unfolding laid_out
      at_log z o ms e q = e ∙ ap (λ (x : List Message). laid_out x log start) q ∙ given ∙ on
        where
          given : laid_out (answers_to width_of t own id d) log start ≡ tested later log rest
          given = rw (eq-eqb (byte d 8) 0 z)

  -- whom the request is to
  module _ (g : ℕ) (to : g ≡ destination_of f) (r : Bool) (its : r ≡ is_ours own g) where
    ours_is : r ≡ is_ours own (destination_of (fields_of id))
    ours_is = its ∙ ap (is_ours own) (to ∙ ap destination_of split)

    pub to_us : r ≡ true → (spn : ℕ) → spn ≡ spn_asked d → located width_of t own spn ≡ answers_to width_of t own id d
    to_us e spn s = ap (located width_of t own) s ∙ rw (← ours_is, e)

    pub to_another : r ≡ false → [] ≡ answers_to width_of t own id d
    to_another e = rw (← ours_is, e)
