use mathlib.Core.Path.{◌≡◌}
use mathlib.Core.Bool.{Bool, not}
use mathlib.Core.List.{List}
use Prim.Native.Nat.{ℕ}
use lib.ListN.{get_or}
use Rattle.words.specs.First.{any}
use Rattle.single.specs.Single.{lies_there}
use Rattle.single.proofs.all_lie.Given as goal

abbrev pub out : List ℕ → List ℕ → ℕ → Bool
out ss ws i = not (lies_there (get_or ss i 0) (get_or ws i 0))

abbrev pub invariant-loop-i : goal.invariant-loop-i
invariant-loop-i l = l.outside ≡ any (out l.starts l.widths) l.i
