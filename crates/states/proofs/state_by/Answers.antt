-- `state_by`: the kind with the number says it. Assumes nothing.
use Prim.Native.Nat.{ℕ}
use mathlib.Core.Path.{ap, ◌∙◌}
use Rattle.states.specs.States.{state_by}
use Rattle.states.proofs.Cases.{capped}
use Rattle.states.proofs.state_by.Goals as goal

pub returns : goal.returns
returns c = c.judge.ensures ∙ ap (λ (k : ℕ). state_by k c.args.number) c.from.ensures ∙ capped c.args.kind c.args.number
