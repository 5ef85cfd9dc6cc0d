use mathlib.Core.Path.{◌≡◌}
use Rattle.record.specs.Sized.{over_to_by}
use Rattle.bridge.specs.Bridge.{bridge}
use Rattle.replaying.specs.Feed.{state, step}
use Rattle.replaying.proofs.all.Given as goal

abbrev pub invariant-loop-r : goal.invariant-loop-r
invariant-loop-r l =
    state (bridge l.c l.q) l.w l.counts ≡ over_to_by step 14 (state (bridge l.initial.c l.initial.q) l.initial.w l.initial.counts) l.s l.r-index
