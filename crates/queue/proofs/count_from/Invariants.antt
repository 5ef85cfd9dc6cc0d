use Rattle.std.specs.Prelude.{◌≡◌, ◌+◌, ◌≤◌, drop}
use Rattle.queue.specs.Row.{how_many}
use Rattle.queue.proofs.count_from.Given as goal

abbrev pub invariant-loop-word : goal.invariant-loop-word
invariant-loop-word l = (l.count ≤ l.word-index) × (l.count + how_many l.from (drop l.word-index l.frames) ≡ how_many l.from l.frames)
