-- `queue::waiting` meets its contract: the words behind the count, as many as wait. Assumes nothing.
use Rattle.std.proofs.Common.{arith}
use Rattle.queue.proofs.Words.{count_most, part_waits, waiting-long}
use Rattle.queue.proofs.waiting.Goals as goal

pub returns : goal.returns
returns c =
    let r = c.args.row.now in
    let e = part_waits r _ c.count_of.ensures.0 in
    (e, rw e (omega (arith, waiting-long r c.told-row, count_most r)))
