-- `read`: 11 and 12 by what opening the map answered; a usable map's lists go to payload's call, which then finds each position placed. Assumes nothing.
use mathlib.Core.Path.{◌∙◌}
use Rattle.dictionary.proofs.Table.{width-most}
use Rattle.ask.proofs.Calls.{read_unready, read_told}
use Rattle.ask.proofs.read.Goals as goal

pub returns-in-Ok : goal.returns-in-Ok
returns-in-Ok c = c.read_with.ensures ∙ read_told _ _ _ _ _ c.in-Ok.ensures (width-most _) _ _ _

pub returns-in-Err : goal.returns-in-Err
returns-in-Err c =
    let s = c.args in
    read_unready _ _ _ c.in-Err.ensures s.payload.now s.room.now s.states.now
