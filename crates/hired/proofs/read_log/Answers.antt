-- The loop's invariant: the words and the tally are those of some bytes. Assumes nothing.
use Prim.Native.Nat.{◌^◌}
use Rattle.hired.proofs.Chunks.{no_bytes, more_bytes}
use Rattle.hired.proofs.read_log.Goals as goal

pub loop-turn-init : goal.loop-turn-init
loop-turn-init g c = let a = c.args in rw c.start-tally.ensures (no_bytes (2 ^ 31) a.t.now a.acc.now)

pub loop-turn-preserved : goal.loop-turn-preserved
loop-turn-preserved g c = more_bytes (2 ^ 31) _ _ _ _ _ _ _ _ _ c.loop-turn.invariant c.feed_on-taken.ensures
