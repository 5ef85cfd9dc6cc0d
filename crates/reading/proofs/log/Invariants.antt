-- What some bytes made before the loop, some bytes make now. Assumes nothing.
use Rattle.feeding.specs.Feed.{started}
use Rattle.reading.specs.Bytes.{SomeBytes}
use Rattle.reading.proofs.log.Given as goal

abbrev pub invariant-loop : goal.invariant-loop
invariant-loop g l = SomeBytes l.fn.t started l.t l.taken.tally
