-- `get_odd`: a number that lies in the payload is fetched. Assumes nothing.
use mathlib.Core.Path.{sym, ◌∙◌}
use Rattle.bits.specs.Bits.{number_in}
use Rattle.bits.proofs.Number.{lies, number_read}
use Rattle.bits.proofs.get_odd.Goals as goal

pub fetch_odd-requires : goal.fetch_odd-requires
fetch_odd-requires c =
    let l = lies _ c.args.start c.args.width (sym c.lies_in.ensures ∙ c.if-lies_in.true) in
    (c.requires, l.0, l.1)

pub returns-then-lies_in : goal.returns-then-lies_in
returns-then-lies_in c =
    let a = c.args in
    c.fetch_odd.ensures
    ∙ sym (number_read a.payload.now a.start a.width (sym c.lies_in.ensures ∙ c.if-lies_in.true))

pub returns : goal.returns
unfolding number_in
returns c = rw (← c.lies_in.ensures, c.if-lies_in.false)
