-- `put_odd`: bytes are what their bits say. Assumes nothing.
use mathlib.Core.Path.{sym, ◌∙◌}
use borrow.Author.Rules.{rules}
use Rattle.bits.specs.Bits.{with_number}
use Rattle.bits.proofs.Number.{lies, put-number}
use Rattle.bits.proofs.put_odd.Goals as goal

pub lay_odd-requires : goal.lay_odd-requires
lay_odd-requires c =
    let l = lies _ c.args.start c.args.width (sym c.lies_in.ensures ∙ c.if-lies_in.true) in
    (c.requires, l.0, l.1)

pub returns-then-lies_in : goal.returns-then-lies_in
returns-then-lies_in c =
    let a = c.args in
    put-number a.out.now c.lay_odd.new.out a.start a.width a.value (sym c.lies_in.ensures ∙ c.if-lies_in.true) (search rules)
    (search rules) c.lay_odd.ensures

pub returns-else-lies_in : goal.returns-else-lies_in
unfolding with_number
returns-else-lies_in c = rw (← c.lies_in.ensures, c.if-lies_in.false)
