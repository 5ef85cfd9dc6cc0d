-- A log may be cut into chunks anywhere: feeding one after another is feeding all at once. Assumes nothing.
use Rattle.std.proofs.Common.{◌≡◌, ℕ, ◌<◌, List, [], ◌∷◌, ◌++◌, length, sym, refl, ap, ◌∙◌, ap₂, append_assoc, append-nil}
use mathlib.Core.List.{flatten}
use Rattle.record.specs.Cut.{left_of, over}
use Rattle.record.specs.Chunk.{carried}
use Rattle.record.proofs.Cutting.{over-short, left-short, in_two, left_less}
use Rattle.record.proofs.Chunks.{carried_back}
use Rattle.feeding.specs.declared.Counts.{Counts}
use Rattle.feeding.specs.declared.Tally.{Tally}
use Rattle.feeding.specs.Feed.{state, step, tally_of, Fed, fed, cut_off, feeding, all_fed}

-- the bytes that a tally carries, and a chunk behind them
abbrev behind : Tally → List ℕ → List ℕ
behind s x = carried s.left s.carry ++ x

-- feeding a and then b is feeding a ++ b
pub fed_twice : (t : List ℕ) (s : Tally) (a b : List ℕ) → feeding (feeding t s a).words (feeding t s a).tally b ≡ feeding t s (a ++ b)
unfolding feeding
fed_twice t s a b =
    let l = behind s a in
    let u = over step (state t s.counts) l in
    let (o, r) = in_two step b (state t s.counts) l in
    ap (λ (x : List ℕ). cut_off (over step u (x ++ b)) (left_of (x ++ b))) (carried_back (left_of l) (left_less l))
    ∙ ap₂ cut_off (sym o) (sym r)
    ∙ ap (λ (x : List ℕ). cut_off (over step (state t s.counts) x) (left_of x)) (append_assoc (carried s.left s.carry) a b)

-- nothing more changes nothing
fed_nothing : (t : List ℕ) (c : Counts) (l : List ℕ) → length l < 13 → fed t (tally_of c l) ≡ feeding t (tally_of c l) []
unfolding feeding
fed_nothing t c l h = rw (carried_back l h, append-nil l, over-short l h step (state t c), left-short l h)

is_cut : (t : List ℕ) (s : Tally) (x : List ℕ) → feeding t s x ≡ cut_off (over step (state t s.counts) (behind s x)) (left_of (behind s x))
unfolding feeding
is_cut t s x = refl

-- any number of chunks
pub fed_all_lem : (xs : List (List ℕ)) (t : List ℕ) (c : Counts) (l : List ℕ) → length l < 13 → all_fed (fed t (tally_of c l)) xs ≡ feeding t (tally_of c l) (flatten xs)
unfolding all_fed flatten
fed_all_lem [] t c l h = fed_nothing t c l h
fed_all_lem (x ∷ xs) t c l h = step_by (fed_all_lem xs)
  where
    step_by : ((t : List ℕ) (c : Counts) (l : List ℕ) → length l < 13 → all_fed (fed t (tally_of c l)) xs ≡ feeding t (tally_of c l) (flatten xs))
        → all_fed (feeding t (tally_of c l) x) xs ≡ feeding t (tally_of c l) (x ++ flatten xs)
    step_by ih = ap (λ (f : Fed). all_fed f xs) (is_cut t (tally_of c l) x) ∙ ih _ _ (left_of (behind (tally_of c l) x)) (left_less (behind (tally_of c l) x))
        ∙ ap (λ (f : Fed). feeding f.words f.tally (flatten xs)) (sym (is_cut t (tally_of c l) x)) ∙ fed_twice t (tally_of c l) x (flatten xs)
