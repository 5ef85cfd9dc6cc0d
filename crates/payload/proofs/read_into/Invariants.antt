use mathlib.Core.Path.{◌≡◌}
use mathlib.Core.List.{◌++◌}
use Prim.Native.Nat.{◌≤◌}
use lib.ListN.{length, drop}
use Rattle.words.specs.Lists.{tabulate}
use Rattle.payload.proofs.Turns.{read_at}
use Rattle.payload.proofs.read_into.Given as goal

abbrev pub invariant-loop-i : goal.invariant-loop-i
invariant-loop-i l = (length l.starts ≤ length l.widths) × (l.room ≡ tabulate (read_at l.starts l.widths l.payload) l.i ++ drop l.i l.initial.room)
