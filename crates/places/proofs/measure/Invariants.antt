use mathlib.Core.Path.{◌≡◌}
use Prim.Native.Nat.{◌≤◌}
use lib.ListN.{get_or}
use Rattle.places.specs.Place.{end_to, lacks_place}
use Rattle.words.proofs.Lowest.{None}
use Rattle.places.proofs.measure.Given as goal

abbrev pub invariant-loop-i : goal.invariant-loop-i
invariant-loop-i l = (l.i ≤ 64) × (l.end ≡ end_to l.starts l.widths l.i) × None (λ k. lacks_place k (get_or l.starts k 0) (get_or l.widths k 0)) l.i
