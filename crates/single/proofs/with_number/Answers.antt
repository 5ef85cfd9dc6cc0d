-- `with_number`: what lies in eight bytes is laid, an odd width as two runs. Assumes nothing.
use Prim.Native.Nat.{◌≤◌}
use mathlib.Core.Path.{sym, ◌∙◌}
use native.Mathlib.Omega.{arith}
use Rattle.places.specs.Place.{end_of}
use Rattle.places.proofs.Place.{end_runs, even_skips}
use Rattle.single.proofs.Cutting.{there}
use Rattle.single.proofs.Laying.{one-laid, laid-lies, laid-not}
use Rattle.single.proofs.with_number.Goals as goal

pub returns-then-not-lies : goal.returns-then-not-lies
returns-then-not-lies c =
    let a = c.args in
    sym (laid-not a.word a.start a.width a.value c.ranges.word.fits (sym c.lies.ensures ∙ c.if-not-lies.true))

pub returns-then-is_odd : goal.returns-then-is_odd
returns-then-is_odd c =
    let inside : let a = c.args in (1 ≤ a.width) × (a.width ≤ 32) × (end_of a.start a.width ≤ 64) = let a = c.args in there a.start a.width (sym c.lies.ensures ∙ c.if-not-lies.false) in
    let a = c.args in
    let p = inside in
    laid-lies a.word a.start a.width a.value _ p.1 p.2 c.with_odd.ensures

pub with_run-requires : goal.with_run-requires
with_run-requires c =
    let inside : let a = c.args in (1 ≤ a.width) × (a.width ≤ 32) × (end_of a.start a.width ≤ 64) = let a = c.args in there a.start a.width (sym c.lies.ensures ∙ c.if-not-lies.false) in
    let a = c.args in omega (arith, inside, end_runs a.start a.width)

pub returns : goal.returns
returns c =
    let inside : let a = c.args in (1 ≤ a.width) × (a.width ≤ 32) × (end_of a.start a.width ≤ 64) = let a = c.args in there a.start a.width (sym c.lies.ensures ∙ c.if-not-lies.false) in
    let a = c.args in
    let p = inside in
    laid-lies a.word a.start a.width a.value _ p.1 p.2
    (one-laid a.word a.start a.width a.value _ (even_skips a.width (sym c.is_odd.ensures ∙ c.if-is_odd.false)) c.with_run.ensures)
