-- What some bytes made before the loop, some bytes make now. Assumes nothing.
use Rattle.bridge.specs.Bridge.{bridge}
use Rattle.replaying.specs.Feed.{started}
use Rattle.replay.specs.Bytes.{SomeTrace}
use Rattle.replay.proofs.day.Given as goal

abbrev pub invariant-loop : goal.invariant-loop
invariant-loop g l = SomeTrace (bridge l.fn.c l.fn.q) l.fn.w started (bridge l.c l.q) l.w l.taken.tally
