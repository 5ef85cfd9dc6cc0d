-- Demands 1 and 3 with the calls of Req 06 in them: a line of a report gets an answer from a fixed list; and feeding a hire leaves the words of the table that feeding leaves, so that in a run of
-- calls it is a `Feeds`. Assumes nothing.
use Prim.Native.Nat.{ℕ}
use mathlib.Core.Path.{◌≡◌, refl, ap}
use mathlib.Core.Bool.{true}
use mathlib.Core.List.{List, [], ◌∷◌}
use Rattle.answers.proofs.Tests.{one_of, from-answers}
use Rattle.message.specs.declared.Key.{Key}
use Rattle.open.specs.Open.{map_as}
use Rattle.feeding.specs.declared.Tally.{Tally}
use Rattle.feeding.specs.Feed.{Fed}
use Rattle.hire.specs.Step.{hiring}
use Rattle.hire.specs.Line.{Lined, unlined, line_tests, line_at, line_in}
use Rattle.hire.proofs.Chunks.{fed-same}
use Rattle.demands.specs.Calls.{Feeds, words_after}

pub line_list : (limit : ℕ) (t acc : List ℕ) (k : Key) (p : ℕ) → one_of (line_in limit t acc k p).answer.number (0 ∷ 11 ∷ 12 ∷ 25 ∷ 18 ∷ []) ≡ true
unfolding line_in
line_list limit t acc k p = from-answers (λ (l : Lined). l.answer.number) unlined (λ a. refl) (line_tests limit t acc k p) (line_at t acc k (map_as t k) p)

pub feeds_the_table : (limit : ℕ) (t acc : List ℕ) (s : Tally) (chunk : List ℕ) → (hiring limit t acc s chunk).fed.words ≡ words_after t (Feeds s chunk)
feeds_the_table limit t acc s chunk = ap (λ (f : Fed). f.words) (fed-same limit t acc s chunk)
