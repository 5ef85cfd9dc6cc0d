-- A log that comes chunk after chunk is some bytes. Assumes nothing.
use Prim.Native.Nat.{ℕ}
use mathlib.Core.Path.{ap, ◌∙◌}
use mathlib.Core.List.{List, [], ◌++◌, flatten}
use native.Mathlib.Omega.{arith}
use Rattle.feeding.specs.declared.Tally.{Tally}
use Rattle.feeding.specs.Counts.{no_counts}
use Rattle.feeding.specs.Feed.{started}
use Rattle.hire.specs.Step.{Hired, hiring, all_hired}
use Rattle.hire.proofs.Chunks.{hired_twice, hired_all}
use Rattle.hired.specs.Bytes.{SomeHire}

-- before the first of them
pub no_bytes : (limit : ℕ) (t acc : List ℕ) → SomeHire limit t acc started t acc started
unfolding all_hired flatten
no_bytes limit t acc = record { bytes = []; is = hired_all limit [] t acc no_counts [] (omega arith) }

-- one chunk more
pub more_bytes : (limit : ℕ) (t acc : List ℕ) (s : Tally) (u bcc : List ℕ) (p : Tally) (v ccc : List ℕ) (q : Tally) → SomeHire limit t acc s u bcc p → SomeHire limit u bcc p v ccc q
    → SomeHire limit t acc s v ccc q
more_bytes limit t acc s u bcc p v ccc q x y =
    record {
      bytes = x.bytes ++ y.bytes;
      is = y.is ∙ ap (λ (h : Hired). hiring limit h.fed.words h.acc h.fed.tally y.bytes) x.is ∙ hired_twice limit t acc s x.bytes y.bytes;
    }
