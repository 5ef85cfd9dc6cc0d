-- `too_wide`: no number passed needs more than its width, so the one that stops the search is the lowest. Assumes nothing.
use mathlib.Core.Path.{sym}
use native.Mathlib.Omega.{arith}
use Rattle.words.proofs.Lowest.{hit, miss}
use Rattle.payload.specs.Calls.{too_wide_in}
use Rattle.payload.proofs.too_wide.Goals as goal

pub returns-then-needs_more : goal.returns-then-needs_more
unfolding too_wide_in
returns-then-needs_more c = (omega arith, hit _ _ c.loop-i.i _ (omega arith) c.loop-i.invariant (c.needs_more.ensures (c.requires.2 c.loop-i.i (omega arith))) c.if-needs_more.true)

pub returns : goal.returns
unfolding too_wide_in
returns c = sym (miss _ _ c.loop-i.i (omega arith) c.loop-i.invariant)
