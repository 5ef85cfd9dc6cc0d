-- `measure`: no position passed lacks a place, so the one that stops the walk is the lowest; the end is the largest of those passed. Assumes nothing.
use mathlib.Core.Path.{◌≡◌, refl, sym, ap, ◌∙◌}
use mathlib.Core.Bool.{true, or-true}
use Prim.Native.Nat.{ℕ, ◌≤◌}
use native.Mathlib.Omega.{arith}
use borrow.Author.Count.{below_none}
use borrow.Author.Rules.{rules}
use lib.Dec.{leb}
use lib.ListN.{length, get_or, get_or-eq_default}
use Rattle.places.specs.Place.{end_to, lacks_place, unplaced_in}
use Rattle.words.proofs.Lowest.{hit, turn, miss}
use Rattle.places.proofs.Place.{end_more}
use Rattle.places.proofs.Placed.{placed_one, walk_stopped, walk-done}
use Rattle.places.proofs.measure.Goals as goal

pub loop-i-init : goal.loop-i-init
unfolding end_to
loop-i-init c = (search rules, refl, below_none _)

-- a missing width is 0, which has no place
missing : (i start : ℕ) → true ≡ lacks_place i start 0
unfolding lacks_place
missing i start = rw (or-true (leb 64 i))

pub returns-in_default-clause-err : goal.returns-in_default-clause-err
unfolding unplaced_in
returns-in_default-clause-err c =
    let past : length c.args.widths.now ≤ c.loop-i.i = search rules in
    let seen = missing c.loop-i.i (get_or c.args.starts.now c.loop-i.i 0) ∙ ap (lacks_place c.loop-i.i (get_or c.args.starts.now c.loop-i.i 0)) (sym (get_or-eq_default c.args.widths.now 0 past)) in
    walk_stopped _ _ _ (hit _ _ c.loop-i.i true (omega arith) c.loop-i.invariant.2 seen refl)

-- stopped: this position lacks a place
pub returns-then-lacks_place-clause-err : goal.returns-then-lacks_place-clause-err
unfolding unplaced_in
returns-then-lacks_place-clause-err c =
    let width : c.in-Some.width.now ≡ get_or c.args.widths.now c.loop-i.i 0 = search rules in
    walk_stopped _ _ _ (hit _ _ c.loop-i.i _ (omega arith) c.loop-i.invariant.2 (rw width at c.lacks_place.ensures) c.if-lacks_place.true)

pub loop-i-preserved : goal.loop-i-preserved
loop-i-preserved c =
    let width : c.in-Some.width.now ≡ get_or c.args.widths.now c.loop-i.i 0 = search rules in
    let seen = rw width at c.lacks_place.ensures in (
      omega (arith, placed_one _ _ _ (sym seen ∙ c.if-lacks_place.false)),
      rw (end_more c.args.starts.now c.args.widths.now c.loop-i.i) (omega (arith, c.max-end.ensures, c.loop-i.invariant.1, rw width at c.end_bit.ensures)),
      turn _ _ _ c.loop-i.invariant.2 seen c.if-lacks_place.false,
    )

-- all passed
pub returns-clause-ok : goal.returns-clause-ok
unfolding unplaced_in
returns-clause-ok c = walk-done _ _ _ c.loop-i.i (miss _ _ c.loop-i.i (omega arith) c.loop-i.invariant.2) c.loop-i.invariant.1 (omega arith)
