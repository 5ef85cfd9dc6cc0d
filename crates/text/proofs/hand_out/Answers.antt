-- `text::hand_out` meets its contract: a copy that had room, or none. Assumes nothing.
use mathlib.Core.Path.{sym, ◌∙◌}
use Rattle.text.proofs.Handed.{handed_there, handed-not}
use Rattle.text.proofs.hand_out.Goals as goal

pub returns-then-copy_at : goal.returns-then-copy_at
returns-then-copy_at c = handed_there _ _ _ _ c.copy_at.ensures.dst_after (sym c.copy_at.ensures.value ∙ c.if-copy_at.true) c.with_detail.ensures

pub returns : goal.returns
returns c = handed-not _ _ _ _ c.copy_at.ensures.dst_after (sym c.copy_at.ensures.value ∙ c.if-copy_at.false) c.plainly.ensures
