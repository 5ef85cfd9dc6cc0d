-- `walk`: no rule applies to a position passed; the ends and the marks are those of the positions passed. Assumes nothing.
use mathlib.Core.Path.{sym, ap, ap₂, ◌∙◌}
use Prim.Native.Nat.{ℕ, ◌%◌, ◌<◌, max}
use native.Mathlib.Omega.{arith}
use lib.ListN.{length-set}
use borrow.Author.Count.{below_none}
use borrow.Author.Rules.{rules}
use Rattle.std.proofs.Common.{Some}
use Rattle.places.specs.Place.{end_to}
use Rattle.places.proofs.Place.{end_more}
use Rattle.words.proofs.Lowest.{any_at, any_none, turn}
use Rattle.judge.proofs.Clear.{end_none, pass_one, wide}
use Rattle.judge.proofs.Listed.walk.Goals as goal

pub loop-clear-init : goal.loop-clear-init
loop-clear-init c = record {
  last = end_none _ _;
  most = end_none _ _;
  size = search rules;
  marks = λ j l. absurd (omega arith);
  none = below_none _;
}

-- of the positions passed each has a width
pub is_broken-requires : goal.is_broken-requires
is_broken-requires c =
    let m = c.args.self in
    let l = c.loop-clear.invariant in
    (c.loop-clear-test.true, l.last, l.most, wide m.spns.now m.starts.now m.widths.now c.loop-clear.clear l.none, l.marks)

pub returns-then-is_broken : goal.returns-then-is_broken
returns-then-is_broken c = rw (any_at _ _ _ c.loop-clear-test.true (sym c.is_broken.ensures ∙ c.if-is_broken.true))

pub loop-clear-preserved : goal.loop-clear-preserved
loop-clear-preserved c =
    let m = c.args.self in
    let l = c.loop-clear.invariant in
    let k = c.mark_of.ensures.0 ∙ ap (λ (x : ℕ). x % 256) c.number_at.ensures in
    record {
      last = l.most ∙ ap (end_to m.starts.now m.widths.now) (omega arith);
      most = c.max-end.ensures ∙ ap₂ max l.most c.end_at.ensures ∙ sym (end_more m.starts.now m.widths.now c.loop-clear.clear);
      size = simp length-set l.size;
      marks = rw k (pass_one c.loop-clear.seen m.spns.now c.loop-clear.clear l.marks (omega (arith, k, c.mark_of.ensures.1, l.size)));
      none = turn _ _ _ l.none c.is_broken.ensures c.if-is_broken.false;
    }

-- all passed
pub returns : goal.returns
returns c =
    let m = c.args.self in
    let l = c.loop-clear.invariant in
    rw (any_none _ c.args.self.n (λ (k : ℕ) (h : k < m.n). l.none k (omega (arith, h, c.loop-clear-test.false)))) (ap Some (l.most ∙ ap (end_to m.starts.now m.widths.now) (omega (arith, c.loop-clear-test.false))))
