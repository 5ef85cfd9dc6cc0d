use mathlib.Core.Path.{◌≡◌}
use mathlib.Core.List.{List, ◌++◌}
use Prim.Native.Nat.{ℕ}
use lib.ListN.{get_or, drop}
use Rattle.words.specs.Lists.{tabulate}
use Rattle.single.specs.Single.{number_of}
use Rattle.single.proofs.cut_all.Given as goal

-- the number at an index
abbrev pub at : ℕ → List ℕ → List ℕ → ℕ → ℕ
at word ss ws i = number_of word (get_or ss i 0) (get_or ws i 0)

abbrev pub invariant-loop-i : goal.invariant-loop-i
invariant-loop-i l = l.room ≡ tabulate (at l.word l.starts l.widths) l.i ++ drop l.i l.initial.room
