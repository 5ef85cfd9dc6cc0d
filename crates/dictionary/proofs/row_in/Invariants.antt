use Prim.Native.Nat.{suc, ◌≤◌, ◌<◌}
use lib.ListN.{length}
use Rattle.words.specs.Halve.{turns}
use Rattle.words.proofs.Halve.{Leads}
use Rattle.dictionary.proofs.Lent.{not_below}
use Rattle.dictionary.proofs.row_in.Given as goal

abbrev pub invariant-loop-n : goal.invariant-loop-n
invariant-loop-n l = (1 ≤ l.n) × (l.n ≤ suc l.hi) × (l.hi < length l.rows) × Leads (not_below l.rows l.spn) (length l.rows) l.hi l.n

abbrev pub decreases-loop-n : goal.decreases-loop-n
decreases-loop-n l = turns l.n
