-- `save::place_at` meets its contract: SPN and start of the cell. Assumes nothing.
use mathlib.Core.Path.{ap, ◌∙◌}
use Rattle.keyrow.specs.View.{place_of}
use Rattle.image.specs.Write.{place_or}
use Rattle.save.proofs.Pieces.{place_there}
use Rattle.save.proofs.place_at.Goals as goal

pub returns : goal.returns
returns c =
    place_there (place_of c.cell_of-cell.result) c.spn_of.result c.start_of.result c.spn_of.ensures c.start_of.ensures
    ∙ ap place_or c.cell_of-cell.ensures
