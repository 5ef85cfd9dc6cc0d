-- `needs_more`: a number needs more than its width where something is left above it. Assumes nothing.
use mathlib.Core.Path.{◌≡◌}
use Prim.Native.Nat.{◌%◌}
use native.Mathlib.Omega.{arith}
use Rattle.payload.specs.Calls.{needs_more}
use Rattle.payload.proofs.Fit.{more_by_shift}
use Rattle.payload.proofs.needs_more.Goals as goal

pub returns : goal.returns
unfolding needs_more
returns c l = let e : c.args.width % 64 ≡ c.args.width = omega (arith, l) in rw e (more_by_shift c.args.value c.args.width)
