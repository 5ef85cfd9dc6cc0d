-- `get_even`: a parameter that skips no bit is one run. Assumes nothing.
use mathlib.Core.Path.{sym, ◌∙◌}
use Rattle.places.proofs.Place.{even_skips}
use Rattle.bits.specs.Bits.{number_in}
use Rattle.bits.proofs.Number.{even-lies, read_run, number_read}
use Rattle.bits.proofs.get_even.Goals as goal

pub returns-then-run_lies_in : goal.returns-then-run_lies_in
returns-then-run_lies_in c =
    let a = c.args in
    c.get_run.ensures
    ∙ read_run a.payload.now a.start a.width (even_skips a.width c.requires)
    ∙ sym (number_read a.payload.now a.start a.width (sym (c.run_lies_in.ensures ∙ even-lies _ a.start a.width c.requires) ∙ c.if-run_lies_in.true))

pub returns : goal.returns
unfolding number_in
returns c = rw (sym (c.run_lies_in.ensures ∙ even-lies _ c.args.start c.args.width c.requires) ∙ c.if-run_lies_in.false)
