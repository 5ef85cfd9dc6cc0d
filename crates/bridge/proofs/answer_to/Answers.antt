-- `bridge::answer_to` meets its contract: a fate by its case. Assumes nothing.
use mathlib.Core.Path.{ap, sym, ◌∙◌}
use Rattle.bridge.specs.Bridge.{answer_to}
use Rattle.bridge.proofs.answer_to.Goals as goal

pub returns-in-Refused : goal.returns-in-Refused
unfolding answer_to
returns-in-Refused c = c.plainly.ensures ∙ ap answer_to (sym c.in-Refused.is)

pub returns-in-Filtered : goal.returns-in-Filtered
unfolding answer_to
returns-in-Filtered c = c.with_detail.ensures ∙ ap answer_to (sym c.in-Filtered.is)

pub returns-in-Turned : goal.returns-in-Turned
unfolding answer_to
returns-in-Turned c = c.plainly-in-Turned.ensures ∙ ap answer_to (sym c.in-Turned.is)

pub returns-in-Queued : goal.returns-in-Queued
unfolding answer_to
returns-in-Queued c = c.with_detail-in-Queued.ensures ∙ ap answer_to (sym c.in-Queued.is)

pub returns-in-Sent : goal.returns-in-Sent
unfolding answer_to
returns-in-Sent c = c.with_detail-in-Sent.ensures ∙ ap answer_to (sym c.in-Sent.is)
