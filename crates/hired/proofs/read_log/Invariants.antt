use Prim.Native.Nat.{◌^◌}
use Rattle.feeding.specs.Feed.{started}
use Rattle.hired.specs.Bytes.{SomeHire}
use Rattle.hired.proofs.read_log.Given as goal

abbrev pub invariant-loop-turn : goal.invariant-loop-turn
invariant-loop-turn g l = SomeHire (2 ^ 31) l.fn.t l.fn.acc started l.t l.acc l.taken.tally
