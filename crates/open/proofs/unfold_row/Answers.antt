-- `unfold_row`: SPNs and starts by `lay_places`; the widths of these SPNs by the row's edition, marked where nothing stands. Assumes nothing.
use mathlib.Core.Path.{ap, ◌∙◌}
use borrow.Author.Rules.{rules}
use lib.ListN.{take}
use Rattle.judge.specs.Judge.{spn_in}
use Rattle.open.specs.Unfolded.{marked_to}
use Rattle.open.proofs.Unfolded.{unfolded-first, widths-unfolded}
use Rattle.open.proofs.unfold_row.Goals as goal

pub returns : goal.returns
returns c =
    let a = c.args in (
      c.lay_places-empty.ensures.0,
      c.lay_places-empty.ensures.1,
      c.mark_where.ensures ∙ ap (marked_to a.row.now a.n) c.widths_of.ensures
          ∙ widths-unfolded a.row.now a.widths.now a.n c.requires (search rules) _ c.edition_of-edition.ensures _
          (ap (take a.n) c.lay_places-empty.ensures.0 ∙ unfolded-first spn_in a.row.now a.n a.spns.now),
    )
