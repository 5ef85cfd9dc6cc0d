-- `read_into`: after i turns the numbers of the first i parameters are read. Assumes nothing.
use mathlib.Core.Path.{◌≡◌, refl, ◌∙◌}
use native.Mathlib.Omega.{arith}
use lib.ListN.{length}
use borrow.Author.Rules.{rules}
use Rattle.words.specs.Lists.{tabulate}
use Rattle.words.proofs.Lists.{write_more}
use Rattle.places.proofs.Placed.{placed_widths}
use Rattle.payload.proofs.Turns.{read_turn, read_at, read_end}
use Rattle.payload.proofs.read_into.Goals as goal

pub loop-i-init : goal.loop-i-init
unfolding tabulate
loop-i-init c = (placed_widths c.args.starts.now c.args.widths.now c.requires.0, refl)

pub loop-i-preserved : goal.loop-i-preserved
loop-i-preserved c = (
  search rules,
  rw (c.loop-i.invariant.1, read_turn c.args.starts.now c.args.widths.now c.requires.0 c.loop-i.i (omega arith) c.args.payload.now c.get.result c.requires.2 c.get.ensures)
      (write_more (read_at c.args.starts.now c.args.widths.now c.args.payload.now) c.loop-i.i c.args.room.now (omega arith)),
)

pub returns : goal.returns
returns c =
    let e : c.loop-i.i ≡ length c.args.starts.now = omega arith in
    (rw e at c.loop-i.invariant.1) ∙ read_end c.args.starts.now c.args.widths.now c.args.payload.now c.args.room.now c.requires.1
