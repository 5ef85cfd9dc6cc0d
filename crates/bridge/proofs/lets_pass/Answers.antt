-- `bridge::lets_pass` meets its contract: a row of the three that are lent is a row of them all. Assumes nothing.
use Rattle.std.proofs.Common.{◌≡◌, ◌+◌, ◌-◌, arith}
use Rattle.bridge.proofs.Parts.{passes-within}
use Rattle.bridge.proofs.lets_pass.Goals as goal

pub returns : goal.returns
returns c =
    let way = c.args.way in
    let e : way.from + 1 - 1 ≡ way.from = omega arith in
    rw e (passes-within _ _ way.among.0 way.among.1 _ c.told-w _ c.lets_pass.ensures)
