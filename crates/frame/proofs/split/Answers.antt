-- `frame::split` meets its contract: each field is a shift and a mask, which is a quotient and a remainder by the one law `cut`.
-- Assumes nothing.
use Prim.Native.Nat.{◌/◌, ◌^◌}
use lib.Bits.{and_mask}
use Rattle.frame.proofs.Cuts.{cut, cut_fits}
use Rattle.frame.proofs.split.Goals as goal

pub overflow_cast-priority : goal.overflow_cast-priority
overflow_cast-priority c = cut_fits (c.args.id / 2 ^ 26) 3 tt

pub overflow_cast-reserved : goal.overflow_cast-reserved
overflow_cast-reserved c = cut_fits (c.args.id / 2 ^ 25) 1 tt

pub overflow_cast-page : goal.overflow_cast-page
overflow_cast-page c = cut_fits (c.args.id / 2 ^ 24) 1 tt

pub overflow_cast-pf : goal.overflow_cast-pf
overflow_cast-pf c = cut_fits (c.args.id / 2 ^ 16) 8 tt

pub overflow_cast-ps : goal.overflow_cast-ps
overflow_cast-ps c = cut_fits (c.args.id / 2 ^ 8) 8 tt

pub overflow_cast-source : goal.overflow_cast-source
overflow_cast-source c = cut_fits c.args.id 8 tt

pub returns : goal.returns
returns c =
    let id = c.args.id in
    simp (cut id 26 3, cut id 25 1, cut id 24 1, cut id 16 8, cut id 8 8, and_mask id 8)
