-- `transport::open_at` meets its contract: four words are stored in row i, one after another. Assumes nothing.
use mathlib.Core.Path.{ap, ◌∙◌}
use native.Mathlib.Omega.{arith}
use lib.ListN.{length}
use Rattle.words.specs.Rows.{put_at}
use Rattle.words.proofs.Rows.{back_is-put, part_is-row, length-row_at}
use Rattle.transport.proofs.Words.{four_stored}
use Rattle.transport.proofs.open_at.Goals as goal

pub returns : goal.returns
returns c =
    let a = c.args in
    back_is-put 4 a.heads.now a.i _
    ∙ ap (put_at 4 a.heads.now a.i)
    (four_stored _ (ap length (part_is-row 4 a.heads.now a.i) ∙ length-row_at 4 a.heads.now a.i (omega arith)) a.holder a.size a.pgn)
