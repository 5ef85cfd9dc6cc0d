-- The loop's invariant: what the records so far make of the start. Assumes nothing.
use mathlib.Core.Path.{ap, ◌∙◌}
use native.Mathlib.Omega.{arith}
use Rattle.record.proofs.Sized.{over_none, over_next, over_ended}
use Rattle.replaying.specs.Feed.{played, step}
use Rattle.replaying.proofs.all.Goals as goal

pub loop-r-init : goal.loop-r-init
loop-r-init c = let a = c.as_chunks.ensures in over_none 14 _ _ a.front a.front_len step _

-- the entry of a record is played
pub loop-r-preserved : goal.loop-r-preserved
unfolding step
loop-r-preserved c =
    let a = c.as_chunks.ensures in
    over_next 14 _ _ a.front a.front_len step _ _ _ c.loop-r-test.true c.loop-r.invariant (c.play-counts.ensures ∙ ap (played _) c.read.ensures)

pub returns : goal.returns
returns c = let a = c.as_chunks.ensures in over_ended 14 _ _ a.front a.front_len step _ _ (omega arith) c.loop-r.invariant
