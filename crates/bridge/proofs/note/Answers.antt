-- `bridge::note` meets its contract: the three rows that are lent come back with one of them put. Assumes nothing.
use Rattle.std.proofs.Common.{◌≡◌, ◌+◌, ◌-◌, arith}
use Rattle.bridge.proofs.Parts.{noted-within}
use Rattle.bridge.proofs.note.Goals as goal

pub returns : goal.returns
returns c =
    let way = c.args.way in
    let e : way.from + 1 - 1 ≡ way.from = omega arith in
    rw e (noted-within _ _ way.among.0 way.among.1 _ c.told-c _ c.note.ensures)
