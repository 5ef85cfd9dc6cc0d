use mathlib.Core.Path.{◌≡◌}
use mathlib.Core.List.{◌++◌}
use lib.ListN.{length, drop}
use Rattle.states.specs.States.{states_of}
use Rattle.states.proofs.lay.Given as goal

-- the first i states are laid
abbrev pub invariant-loop-i : goal.invariant-loop-i
invariant-loop-i l = (length l.states ≡ length l.initial.states) × (l.states ≡ states_of l.widths l.numbers l.i ++ drop l.i l.initial.states)
