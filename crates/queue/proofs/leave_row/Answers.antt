-- `queue::leave_row` meets its contract: nobody waits, or the one at the place leaves and those behind it close up. Assumes nothing.
use Rattle.std.proofs.Common.{arith, ap, length}
use Rattle.queue.proofs.Words.{waiting-long, nobody, somebody}
use Rattle.queue.proofs.leave_row.Goals as goal

pub returns-in_err-k : goal.returns-in_err-k
returns-in_err-k c =
    let r = c.args.row.now in
    rw c.from_residual.ensures (nobody r c.told-row (omega (arith, c.in_err-k.ensures, ap length c.waiting.ensures.0, waiting-long r c.told-row)))

pub close_up-requires : goal.close_up-requires
close_up-requires c = omega (arith, c.in_ok-k.ensures.0, ap length c.waiting.ensures.0, waiting-long c.args.row.now c.told-row)

pub returns : goal.returns
returns c =
    let r = c.args.row.now in
    somebody r c.told-row _ _ (omega (arith, c.in_ok-k.ensures.0, ap length c.waiting.ensures.0, waiting-long r c.told-row)) (rw c.waiting.ensures.0 at c.in_ok-k.ensures.1) c.close_up.ensures
