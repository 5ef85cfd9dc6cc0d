-- `put_even`: a parameter that skips no bit is one run. Assumes nothing.
use mathlib.Core.Path.{sym, ◌∙◌}
use borrow.Author.Rules.{rules}
use Rattle.places.proofs.Place.{even_skips}
use Rattle.bits.specs.Bits.{bit_at, with_number}
use Rattle.bits.proofs.Number.{even-lies, laid-run, put-number}
use Rattle.bits.proofs.put_even.Goals as goal

pub returns-then-run_lies_in : goal.returns-then-run_lies_in
returns-then-run_lies_in c =
    let a = c.args in
    put-number a.out.now c.put_run.new.out a.start a.width a.value
    (sym (c.run_lies_in.ensures ∙ even-lies _ a.start a.width c.requires) ∙ c.if-run_lies_in.true) (search rules)
    (search rules)
    (λ p. c.put_run.ensures p ∙ laid-run a.start a.width a.value p (bit_at a.out.now p) (even_skips a.width c.requires))

pub returns-else-run_lies_in : goal.returns-else-run_lies_in
unfolding with_number
returns-else-run_lies_in c = rw (sym (c.run_lies_in.ensures ∙ even-lies _ c.args.start c.args.width c.requires) ∙ c.if-run_lies_in.false)
