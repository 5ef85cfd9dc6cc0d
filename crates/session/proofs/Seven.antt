-- Seven bytes of a list, filled up where it has fewer. Assumes nothing.
use Prim.Native.Nat.{ℕ, ◌≤◌}
use mathlib.Core.Path.{◌≡◌, ◌∙◌}
use mathlib.Core.List.{List, ◌++◌}
use native.Mathlib.Omega.{arith}
use lib.ListN.{length, take, replicate, length-append, length-take, length-replicate}
use lib.Seq.{take_all, take-take, take-append-le, take-append_seam}
use Rattle.session.specs.Cut.{seven_from}

pub seven_long : (fill : ℕ) (l : List ℕ) → length (seven_from fill l) ≡ 7
unfolding seven_from
seven_long fill l = simp (length-take, length-append, length-replicate) (omega arith)

-- of a list with seven or more nothing is filled up
pub seven_whole : (fill : ℕ) (l : List ℕ) → 7 ≤ length l → seven_from fill l ≡ take 7 l
unfolding seven_from
seven_whole fill l h = take-append-le 7 l (replicate 7 fill) h

pub seven_same : (fill : ℕ) (l : List ℕ) → length l ≡ 7 → seven_from fill l ≡ l
seven_same fill l e = seven_whole fill l (omega arith) ∙ take_all 7 l (omega arith)

-- the list itself stands in front of the filling
pub seven_front : (fill : ℕ) (l : List ℕ) → length l ≤ 7 → take (length l) (seven_from fill l) ≡ l
unfolding seven_from
seven_front fill l h = take-take (length l) 7 (l ++ replicate 7 fill) h ∙ take-append_seam l (replicate 7 fill)
