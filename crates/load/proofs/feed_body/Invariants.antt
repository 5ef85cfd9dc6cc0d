use Prim.Native.Nat.{◌+◌, ◌*◌, ◌-◌}
use mathlib.Core.Path.{◌≡◌}
use Rattle.load.specs.Fed.{fed_body}
use Rattle.load.proofs.feed_body.Given as goal

abbrev pub invariant-loop-i : goal.invariant-loop-i
invariant-loop-i l = fed_body l.t l.image l.key (l.p + 5 * l.i) (l.n - l.i) ≡ fed_body l.initial.t l.image l.key l.p l.n
