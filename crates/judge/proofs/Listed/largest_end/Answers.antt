-- `largest_end`: the end is the largest of those passed. Assumes nothing.
use mathlib.Core.Path.{sym, ap₂, ◌∙◌}
use Prim.Native.Nat.{max}
use Rattle.places.proofs.Place.{end_more}
use Rattle.judge.proofs.Clear.{end_none}
use Rattle.judge.proofs.Listed.largest_end.Goals as goal

pub loop-i-init : goal.loop-i-init
loop-i-init c = end_none _ _

pub loop-i-preserved : goal.loop-i-preserved
loop-i-preserved c = c.max-end.ensures ∙ ap₂ max c.loop-i.invariant c.end_at.ensures ∙ sym (end_more c.args.self.starts.now c.args.self.widths.now c.loop-i.i)
