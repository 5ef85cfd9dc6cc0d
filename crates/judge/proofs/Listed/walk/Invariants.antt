use mathlib.Core.Path.{◌≡◌}
use Prim.Native.Nat.{◌-◌}
use lib.ListN.{length}
use Rattle.places.specs.Place.{end_to}
use Rattle.judge.specs.Walk.{Passed, broken}
use Rattle.words.proofs.Lowest.{None}
use Rattle.judge.proofs.Listed.walk.Given as goal

abbrev pub invariant-loop-clear : goal.invariant-loop-clear
invariant-loop-clear l = record {
  last : l.before ≡ end_to l.self.starts.now l.self.widths.now (l.clear - 1);
  most : l.end ≡ end_to l.self.starts.now l.self.widths.now l.clear;
  size : length l.seen ≡ 256;
  marks : Passed l.seen l.self.spns.now l.clear;
  none : None (broken l.self.spns.now l.self.starts.now l.self.widths.now) l.clear;
}
