-- `edit_at`: the word that is stored is the form of row i. Assumes nothing.
use borrow.Author.Rules.{rules}
use Rattle.edition.proofs.Edited.{word-edited}
use Rattle.edition.proofs.edit_at.Goals as goal

pub returns : goal.returns
returns c = word-edited c.args.t.now (search rules) c.args.i c.requires _ c.args.edition c.with_edition.ensures
