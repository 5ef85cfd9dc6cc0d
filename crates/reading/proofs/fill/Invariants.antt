-- No more was filled than the buffer, which stays as long as it was. Assumes nothing.
use Rattle.std.proofs.Common.{◌≡◌, ◌≤◌, length}
use Rattle.reading.proofs.fill.Given as goal

abbrev pub invariant-loop : goal.invariant-loop
invariant-loop g l = (l.n ≤ length l.buffer) × (length l.buffer ≡ length l.initial.buffer)
