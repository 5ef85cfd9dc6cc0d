-- `pack`: 11 and 12 by what opening the map answered; a usable map's lists go to payload's call, which then finds each position placed. Assumes nothing.
use Rattle.dictionary.proofs.Table.{width-most}
use Rattle.ask.proofs.Calls.{pack_unready, pack_told}
use Rattle.ask.proofs.pack.Goals as goal

pub returns-in-Ok : goal.returns-in-Ok
returns-in-Ok c =
    let s = c.args in
    pack_told _ _ _ _ _ c.in-Ok.ensures (width-most _) _ _ c.told.ensures s.numbers.now _ s.out.now c.pack.ensures

pub returns-in-Err : goal.returns-in-Err
returns-in-Err c =
    let s = c.args in
    pack_unready _ _ _ c.in-Err.ensures s.numbers.now s.out.now
