-- `judge`: what opening the key's map answered. Assumes nothing.
use Rattle.open.proofs.InHand.{answer-is}
use Rattle.ask.proofs.judge.Goals as goal

pub returns : goal.returns
returns c = answer-is _ _ _ _ _ _ c.open-map.ensures
