use Rattle.std.proofs.Common.{◌≡◌, ℕ, ◌+◌, ◌*◌, false, get_or, eqb}
use Rattle.words.specs.First.{any}
use Rattle.pairs.proofs.passed.Given as goal

abbrev pub invariant-loop-i : goal.invariant-loop-i
invariant-loop-i l = any (λ (j : ℕ). eqb (get_or l.row (2 + j) 0) l.pgn) (4 * l.i) ≡ false
