-- `replaying::let_go` meets its contract: the words that the slot left. Assumes nothing.
use mathlib.Core.Path.{ap}
use Rattle.bridge.specs.Bridge.{Slotted}
use Rattle.replaying.proofs.let_go.Goals as goal

pub returns : goal.returns
returns c = ap (λ (s : Slotted). s.words) c.slot.ensures
