-- `locate::answer_none` meets its contract: by its one test. Assumes nothing.
use mathlib.Core.Path.{◌∙◌}
use borrow.Author.Tests.{lt-ltb, le-ltb}
use Rattle.locate.proofs.answer_none.Goals as goal

pub returns-then-size-start : goal.returns-then-size-start
returns-then-size-start c = c.plainly.ensures ∙ rw (lt-ltb _ _ c.if-size-start.true)

pub returns : goal.returns
returns c = c.with_detail.ensures ∙ rw (le-ltb _ _ c.if-size-start.false)
