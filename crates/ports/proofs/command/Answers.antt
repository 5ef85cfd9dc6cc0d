-- `ports::command` meets its contract: what the pair's number gives, or 15. Assumes nothing.
use mathlib.Core.Path.{ap, ◌∙◌}
use borrow.Author.Rules.{rules}
use Rattle.answers.specs.Answers.{plain}
use Rattle.ports.proofs.Calls.{obeyed_by, no_pair}
use Rattle.ports.proofs.command.Goals as goal

pub returns-in-Some : goal.returns-in-Some
returns-in-Some c = obeyed_by _ _ _ _ (search rules) c.in-Some.ensures.number c.obey.ensures (c.plainly.ensures ∙ ap plain c.number_of.ensures)

pub returns : goal.returns
returns c = no_pair _ _ _ _ c.in_default.ensures.number c.plainly-2.ensures
