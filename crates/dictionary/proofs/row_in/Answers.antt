-- `dictionary::row_in` meets its contract: the turns that are left lead to where halving all rows leads. The loop's measure is the number of those
-- turns, so that of n rows it makes no more than `turns n`, 8 of 140 (`table-turns`).
-- Assumes nothing.
use Prim.Native.Nat.{ℕ, ◌-◌, ◌/◌}
use mathlib.Core.Path.{sym, ap, ◌∙◌}
use mathlib.Core.Bool.{cond}
use native.Mathlib.Omega.{arith}
use lib.Dec.{leb}
use lib.ListN.{length}
use Rattle.words.proofs.Halve.{turns-halved, leads_all, leads_turn, leads_there}
use Rattle.rowrule.specs.Rows.{row_in}
use Rattle.dictionary.proofs.Lent.{not_below, number_found, halved-nowhere}
use Rattle.dictionary.proofs.row_in.Goals as goal

pub overflow_sub-hi : goal.overflow_sub-hi
overflow_sub-hi c = omega (arith, c.requires.0)

pub loop-n-init : goal.loop-n-init
loop-n-init c =
    let l = c.requires.0 in
    (omega (arith, l), omega (arith, l), omega (arith, l), leads_all (not_below c.args.rows.now c.args.spn) (length c.args.rows.now))

pub overflow_sub-row : goal.overflow_sub-row
overflow_sub-row c = omega arith

pub bounds-rows-hi : goal.bounds-rows-hi
bounds-rows-hi c = omega arith

pub overflow_sub-hi-in-loop-n : goal.overflow_sub-hi-in-loop-n
overflow_sub-hi-in-loop-n c = omega arith

pub overflow_sub-n : goal.overflow_sub-n
overflow_sub-n c = omega arith

pub loop-n-smaller : goal.loop-n-smaller
loop-n-smaller c = omega (arith, turns-halved c.loop-n.n (omega arith))

pub loop-n-preserved : goal.loop-n-preserved
loop-n-preserved c =
    let spn = c.args.spn in
    let rows = c.args.rows.now in
    let went = c.step-hi.ensures.0 ∙ ap (λ (x : ℕ). cond (leb spn x) (c.loop-n.n / 2) 0) c.from.ensures in
    (omega arith, omega arith, omega arith, leads_turn (not_below rows spn) (length rows) c.loop-n.hi c.loop-n.n _ (omega arith) (ap (λ (x : ℕ). c.loop-n.hi - x) went) c.loop-n.invariant.3)

pub returns-then-from-spn : goal.returns-then-from-spn
returns-then-from-spn c =
    let rows = c.args.rows.now in
    number_found rows c.requires c.args.spn c.loop-n.hi c.loop-n.invariant.2 (sym c.from-2.ensures ∙ c.if-from-spn.true)

pub returns : goal.returns
returns c =
    let rows = c.args.rows.now in
    let e = leads_there (not_below rows c.args.spn) (length rows) c.loop-n.hi c.loop-n.n (omega arith) c.loop-n.invariant.3 in
    halved-nowhere rows c.requires c.args.spn
    (λ has. c.if-from-spn.false (c.from-2.ensures ∙ ap (λ (i : ℕ). (row_in rows i).spn) e ∙ has))
