-- `save::put_image` meets its contract: the first two bytes, the rows and the bodies are the image's pieces. Assumes nothing.
use mathlib.Core.Path.{refl, ◌∙◌}
use borrow.Author.Rules.{rules}
use Rattle.text.proofs.Laid.{next, let_go}
use Rattle.save.proofs.Joined.{image_pieces_are}
use Rattle.save.proofs.put_image.Goals as goal

pub returns : goal.returns
returns c =
    let a = c.args in
    let_go c.new-page.ensures.holds (next c.bytes.ensures (next c.put_rows.ensures c.put_bodies.ensures)) c.at.ensures (search rules)
    ∙ image_pieces_are a.form a.t.now a.out.now a.keys.now _ _ c.requires.0 refl c.behind.ensures.0
