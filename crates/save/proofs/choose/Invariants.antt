use Prim.Native.Nat.{◌+◌, ◌*◌, ◌≤◌}
use mathlib.Core.Path.{◌≡◌}
use mathlib.Core.List.{◌++◌}
use lib.ListN.{length, take}
use Rattle.lookup.specs.View.{map_in}
use Rattle.lookup.specs.Next.{keys_left}
use Rattle.image.specs.Write.{bodies_of, saved_keys}
use Rattle.save.proofs.Walked.{rest}
use Rattle.save.proofs.choose.Given as goal

abbrev pub invariant-loop-key : goal.invariant-loop-key
invariant-loop-key l =
    (l.count + length (keys_left l.key-iterator) ≤ 16) × (length l.keys ≡ 16)
    × (take l.count l.keys ++ rest l.t (keys_left l.key-iterator) ≡ saved_keys l.t) × (l.bodies ≤ 1275 * l.count)
    × (l.bodies + length (bodies_of (map_in l.t) (rest l.t (keys_left l.key-iterator))) ≡ length (bodies_of (map_in l.t) (saved_keys l.t)))
