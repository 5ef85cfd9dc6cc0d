-- An answer's numbers say which answer it is: a promise about the numbers leaves no choice of the case.
-- Assumes nothing.
use mathlib.Core.Path.{◌≡◌, refl, sym, ap, ◌∙◌}
use mathlib.Core.Bool.{cond}
use lib.Dec.{eqb}
use Rattle.answers.specs.declared.Answer.{Answer}
use Rattle.answers.specs.declared.Judgement.{Judgement}
use Rattle.answers.specs.declared.Judgement.TheVariants.{Usable, Conflict, Missing, Unknown, Repeated, NotAbove, Uneven, Overlaps, Beyond, Transport}
use Rattle.answers.specs.Answers.{Judged, said_of, Said, in_numbers}

-- the case of a number and a position
abbrev case_of : Judged → Judgement
case_of j =
    cond (eqb j.number 0) Usable
    (cond (eqb j.number 1) Conflict
    (cond (eqb j.number 2) (Missing j.position)
    (cond (eqb j.number 3) (Unknown j.position)
    (cond (eqb j.number 4) (Repeated j.position)
    (cond (eqb j.number 5) (NotAbove j.position)
    (cond (eqb j.number 9) (Uneven j.position)
    (cond (eqb j.number 6) (Overlaps j.position) (cond (eqb j.number 7) (Beyond j.position) Transport))))))))

back : (j : Judgement) → case_of (said_of j) ≡ j
back Usable = refl
back Conflict = refl
back (Missing p) = refl
back (Unknown p) = refl
back (Repeated p) = refl
back (NotAbove p) = refl
back (Uneven p) = refl
back (Overlaps p) = refl
back (Beyond p) = refl
back Transport = refl

-- one number and one position, one case
pub same_case : (i j : Judgement) → said_of i ≡ said_of j → i ≡ j
same_case i j e = sym (back i) ∙ ap case_of e ∙ back j

abbrev judged_of : Said → Judged
judged_of s = record { number = s.judgement; position = s.position }

-- one answer in numbers, one answer
pub same_answer : (a b : Answer) → in_numbers a ≡ in_numbers b → a ≡ b
same_answer a b e =
    let j = same_case a.judgement b.judgement (ap judged_of e) in
    λ i. record { number = (e i).number; detail = (e i).detail; judgement = j i }
