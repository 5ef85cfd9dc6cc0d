use Prim.Native.Nat.{◌+◌, ◌≤◌}
use mathlib.Core.Path.{◌≡◌}
use mathlib.Core.List.{◌++◌}
use lib.ListN.{length, take}
use Rattle.open.specs.Open.{width_for}
use Rattle.lookup.specs.View.{map_in}
use Rattle.lookup.specs.Next.{keys_left}
use Rattle.locate.specs.Locate.{messages_of, located}
use Rattle.locate.proofs.look_all.Given as goal

abbrev pub invariant-loop-key : goal.invariant-loop-key
invariant-loop-key l =
    (l.count + length (keys_left l.key-iterator) ≤ 16) × (length l.messages ≡ 16)
    × (take l.count l.messages ++ messages_of (width_for l.t) (map_in l.t) l.asked.own l.asked.spn (keys_left l.key-iterator) ≡ located (width_for l.t) l.t l.asked.own l.asked.spn)
