-- One chunk more is some bytes more. Assumes nothing.
use Rattle.replay.proofs.Chunks.{more_bytes}
use Rattle.replay.proofs.day.Goals as goal

pub loop-preserved : goal.loop-preserved
loop-preserved g c = more_bytes _ _ _ _ _ _ _ _ _ c.loop.invariant c.feed_on-taken-in-loop.ensures
