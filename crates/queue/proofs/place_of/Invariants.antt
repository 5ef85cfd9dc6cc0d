use Rattle.std.specs.Prelude.{◌≡◌, ◌≤◌, drop}
use Rattle.queue.specs.Queue.{place}
use Rattle.queue.specs.Row.{priority_in}
use Rattle.queue.proofs.Scan.{found}
use Rattle.queue.proofs.place_of.Given as goal

abbrev pub invariant-loop-k : goal.invariant-loop-k
invariant-loop-k l = (l.low ≤ 8) × (found priority_in l.best l.low l.k (drop l.k l.frames) ≡ place priority_in l.frames)
