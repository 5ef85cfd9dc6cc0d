-- `cut`: an odd width is cut out as two runs, any other as one. Assumes nothing.
use mathlib.Core.Path.{sym, ◌∙◌}
use native.Mathlib.Omega.{arith}
use Rattle.places.proofs.Place.{end_runs, even_skips}
use Rattle.single.proofs.Cutting.{one-run-is, narrow, there}
use Rattle.single.proofs.cut.Goals as goal

pub run_in-requires : goal.run_in-requires
run_in-requires c = let p = there c.args.start c.args.width c.requires in (omega (arith, p, end_runs c.args.start c.args.width), p.1)

pub returns-then-width-le8 : goal.returns-then-width-le8
returns-then-width-le8 c = let a = c.args in c.run_in.ensures ∙ one-run-is a.word a.start a.width (even_skips a.width (narrow a.width c.if-width-le8.true))

pub run_in-requires-2 : goal.run_in-requires-2
run_in-requires-2 c = let p = there c.args.start c.args.width c.requires in (omega (arith, p, end_runs c.args.start c.args.width), p.1)

pub returns : goal.returns
returns c =
    let a = c.args in
    c.run_in-2.ensures ∙ one-run-is a.word a.start a.width (even_skips a.width (sym c.is_odd.ensures ∙ c.if-is_odd.false))
