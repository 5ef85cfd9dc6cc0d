-- `runs_share`: its tests are those of the law. Assumes nothing.
use mathlib.Core.Path.{sym}
use Rattle.places.proofs.Meet.{runs_meet}
use Rattle.places.proofs.runs_share.Goals as goal

pub returns : goal.returns
returns c = sym (runs_meet c.args.start1 c.args.n1 c.args.start2 c.args.n2)
