-- `replaying::start` meets its contract: no bytes leave none. Assumes nothing.
use mathlib.Core.Path.{ap, ◌∙◌}
use mathlib.Core.List.{[]}
use Rattle.record.proofs.Sized.{left-short}
use Rattle.replaying.specs.Counts.{no_counts}
use Rattle.replaying.specs.Feed.{tally_of}
use Rattle.replaying.proofs.Chunks.{some}
use Rattle.replaying.proofs.start.Goals as goal

pub returns : goal.returns
returns c = c.tally_of.ensures ∙ ap (tally_of no_counts) (left-short 14 some [] some)
