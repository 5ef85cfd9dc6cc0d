use Prim.Native.Nat.{ℕ, ◌<◌}
use mathlib.Core.Path.{◌≡◌}
use mathlib.Core.Bool.{false}
use Rattle.maps.specs.Maps.{same_key}
use Rattle.image.specs.Read.{key_at}
use Rattle.image.specs.Part.{row_place}
use Rattle.contents.proofs.row_with.Given as goal

abbrev pub invariant-loop-i : goal.invariant-loop-i
invariant-loop-i l = (j : ℕ) → j < l.i → same_key (key_at l.image (row_place l.image j)) l.key ≡ false
