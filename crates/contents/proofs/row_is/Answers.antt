-- `contents::row_is` meets its contract: the three parts of the key. Assumes nothing.
use mathlib.Core.Path.{ap, ◌∙◌}
use Rattle.message.specs.declared.Key.{Key}
use Rattle.maps.specs.Maps.{same_key}
use Rattle.contents.proofs.Rows.{same_key_lem}
use Rattle.contents.proofs.row_is.Goals as goal

pub returns : goal.returns
returns c = c.eq.ensures ∙ same_key_lem _ _ ∙ ap (λ (x : Key). same_key x c.args.key) c.key_at.ensures
