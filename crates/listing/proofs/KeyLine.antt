-- A key's line from its numbers. Assumes nothing.
use Prim.Native.Nat.{ℕ}
use mathlib.Core.Path.{◌≡◌, refl, ap, ◌∙◌}
use Rattle.answers.specs.declared.Answer.{Answer}
use Rattle.answers.specs.Answers.{at, said_of, Said, in_numbers}
use Rattle.text.specs.declared.Page.{Page as Lent}
use Rattle.text.specs.Page.{Laid}
use Rattle.text.proofs.Laid.{equal}
use Rattle.dictionary.specs.Dictionary.{width_by}
use Rattle.message.specs.declared.Key.{Key}
use Rattle.maps.specs.Maps.{Map, Nothing, Conflict, Held}
use Rattle.judge.specs.Judge.{count_of, judge}
use Rattle.open.specs.Open.{judged_by}
use Rattle.listing.specs.Lines.{line_of, key_line}

-- the judgement of a map, whatever the number of the answer that brings it
judged-is : (width_of : ℕ → ℕ) (m : Map) → ((judged_by width_of m).judgement ≡ (judge width_of m).number) × ((judged_by width_of m).position ≡ (judge width_of m).position)
unfolding judged_by
judged-is width_of Nothing = (refl, refl)
judged-is width_of Conflict = (refl, refl)
judged-is width_of (Held h places) = (refl, refl)

line_is : (k : Key) (edition : ℕ) (m : Map) (n j p : ℕ) (a : Answer) → n ≡ count_of m → in_numbers a ≡ judged_by (width_by edition) m → j ≡ (said_of a.judgement).number → p ≡ (said_of a.judgement).position
    → line_of k n (at j p) ≡ key_line k edition m
unfolding key_line
line_is k edition m n j p a e f g h =
    let u : j ≡ (judge (width_by edition) m).number = g ∙ ap (λ (s : Said). s.judgement) f ∙ (judged-is (width_by edition) m).0 in
    let v : p ≡ (judge (width_by edition) m).position = h ∙ ap (λ (s : Said). s.position) f ∙ (judged-is (width_by edition) m).1 in
    rw (e, u, v)

-- the same of a page that it is laid into
pub line_laid : (x r : Lent) (k : Key) (edition : ℕ) (m : Map) (n j p : ℕ) (a : Answer) → n ≡ count_of m → in_numbers a ≡ judged_by (width_by edition) m → j ≡ (said_of a.judgement).number
    → p ≡ (said_of a.judgement).position → Laid x r (line_of k n (at j p)) → Laid x r (key_line k edition m)
line_laid x r k edition m n j p a e f g h q = equal (line_is k edition m n j p a e f g h) q
