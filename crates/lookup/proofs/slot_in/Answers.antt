-- `slot_in`: no row below i holds the key. Assumes nothing.
use mathlib.Core.Path.{◌≡◌, sym, ◌∙◌}
use native.Mathlib.Omega.{arith}
use borrow.Author.Rules.{rules}
use borrow.Author.Count.{below_more}
use Rattle.words.proofs.First.{first-at, first_none}
use Rattle.history.specs.History.{most_keys}
use Rattle.keyrow.specs.Row.{row_is}
use Rattle.lookup.specs.Layout.{row_of, slot_of}
use Rattle.lookup.proofs.Words.{row_is_lem}
use Rattle.lookup.proofs.slot_in.Goals as goal

pub returns-then-words_are : goal.returns-then-words_are
unfolding slot_of
returns-then-words_are c =
    let seen : row_is (row_of c.args.t.now c.loop-i.i) c.args.key ≡ c.words_are.result = row_is_lem c.args.t.now (search rules) c.loop-i.i c.args.key (omega arith) ∙ sym c.words_are.ensures in
    (sym (first-at _ most_keys c.loop-i.i (search rules) c.loop-i.invariant (seen ∙ c.if-words_are.true)), search rules)

pub loop-i-preserved : goal.loop-i-preserved
loop-i-preserved c =
    let seen : row_is (row_of c.args.t.now c.loop-i.i) c.args.key ≡ c.words_are.result = row_is_lem c.args.t.now (search rules) c.loop-i.i c.args.key (omega arith) ∙ sym c.words_are.ensures in
    below_more _ _ c.loop-i.invariant (seen ∙ c.if-words_are.false)

pub returns : goal.returns
unfolding slot_of
returns c = sym (first_none _ most_keys (λ k h. c.loop-i.invariant k (omega arith)))
