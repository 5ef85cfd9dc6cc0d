use Rattle.lookup.specs.View.{map_in}
use Rattle.open.specs.Open.{width_for}
use Rattle.save.proofs.Pieces.{saved_is}
use Rattle.save.proofs.is_saved.Goals as goal

pub returns : goal.returns
returns c = rw c.number_of-number.ensures (saved_is (width_for c.args.t.now c.args.key) (map_in c.args.t.now c.args.key) c.judge-judged.result c.judge-judged.ensures)
