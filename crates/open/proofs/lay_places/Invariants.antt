use mathlib.Core.Path.{◌≡◌}
use Rattle.words.specs.First.{any}
use Rattle.judge.specs.Judge.{spn_in, start_in}
use Rattle.open.specs.Unfolded.{unfolded, empty_at}
use Rattle.open.proofs.lay_places.Given as goal

abbrev pub invariant-loop-i : goal.invariant-loop-i
invariant-loop-i l = record {
  spns : l.spns ≡ unfolded spn_in l.row l.i l.initial.spns;
  starts : l.starts ≡ unfolded start_in l.row l.i l.initial.starts;
  empty : l.empty ≡ any (empty_at l.row) l.i;
}
