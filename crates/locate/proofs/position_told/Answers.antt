-- `locate::position_told` meets its contract: another address' key, a key whose row does not mention the SPN, or the position that finding gave. Assumes nothing.
use mathlib.Core.Path.{sym, ◌∙◌}
use borrow.Author.Tests.{not-true}
use Rattle.open.specs.Open.{width_for}
use Rattle.lookup.specs.View.{map_in}
use Rattle.ask.specs.Ask.{found_in}
use Rattle.locate.proofs.Finding.{not_ours, found_position}
use Rattle.locate.proofs.Mentioned.{not-mentioned, no_row}
use Rattle.locate.proofs.Walked.{silent, heard}
use Rattle.locate.proofs.position_told.Goals as goal

pub returns-then-key-asked : goal.returns-then-key-asked
returns-then-key-asked c =
    let a = c.args in
    silent (width_for a.t.now a.key) a.asked.own a.asked.spn a.key a.t.now (not_ours (width_for a.t.now a.key) a.asked.own a.asked.spn a.key (map_in a.t.now a.key) c.if-key-asked.true)

pub returns-in_default : goal.returns-in_default
returns-in_default c =
    let a = c.args in
    silent (width_for a.t.now a.key) a.asked.own a.asked.spn a.key a.t.now (no_row (width_for a.t.now a.key) a.asked.own a.asked.spn a.key a.t.now c.in_default.ensures.1 c.in_default.ensures.0)

pub returns-then-not-mentions : goal.returns-then-not-mentions
returns-then-not-mentions c =
    let a = c.args in
    silent (width_for a.t.now a.key) a.asked.own a.asked.spn a.key a.t.now
    (not-mentioned (width_for a.t.now a.key) a.asked.own a.asked.spn a.key c.in-Some.row.now (sym c.mentions.ensures ∙ not-true _ c.if-not-mentions.true-raw) a.t.now c.in-Some.ensures.1 c.in-Some.ensures.0)

pub returns-then-found-eq0 : goal.returns-then-found-eq0
returns-then-found-eq0 c =
    let a = c.args in
    silent (width_for a.t.now a.key) a.asked.own a.asked.spn a.key a.t.now
    (sym c.if-found-eq0.true ∙ found_position (width_for a.t.now a.key) a.asked.own a.asked.spn a.key (map_in a.t.now a.key) c.if-key-asked.false (found_in c.find-found.result) c.find-found.ensures)

pub returns : goal.returns
returns c =
    let a = c.args in
    heard (width_for a.t.now a.key) a.asked.own a.asked.spn a.key a.t.now c.find-found.result.position
    (found_position (width_for a.t.now a.key) a.asked.own a.asked.spn a.key (map_in a.t.now a.key) c.if-key-asked.false (found_in c.find-found.result) c.find-found.ensures) c.if-found-eq0.false
