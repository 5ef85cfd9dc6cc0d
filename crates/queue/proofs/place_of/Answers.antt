-- `queue::place_of` meets its contract: what is found so far and what the rest has make the place. Assumes nothing.
use Rattle.std.proofs.Common.{◌≢◌, length, sym, ap, ◌∙◌, arith, drop_of_length-le}
use Rattle.std.proofs.lemmas.Bool.{eqb-false}
use Rattle.queue.specs.Row.{priority_in}
use Rattle.queue.proofs.Scan.{found, from_front, at_end, lower_turn, other_turn, from_place}
use Rattle.queue.proofs.Leaving.{place-below}
use Rattle.queue.proofs.Words.{number_few}
use Rattle.queue.proofs.place_of.Goals as goal
use Rattle.queue.proofs.place_of.Goals.{then-p-low, else-p-low}

pub loop-k-init : goal.loop-k-init
loop-k-init c = (omega arith, from_front priority_in number_few _)

pub loop-k-preserved : goal.loop-k-preserved
loop-k-preserved c =
    let (e, few) = c.priority_in-p.ensures in
    let i = c.loop-k.invariant in
    let k = c.loop-k.k in
    let cut = from_place c.args.frames.now k 0 (omega arith) in
    elim c.if-p-low.branch [
      | then-p-low w ↦ rw (w.best-is, w.low-is)
          (omega arith, rw e (lower_turn priority_in _ _ k _ _ (omega (arith, w.if-p-low.true, e)) ∙ ap (found priority_in _ _ k) (sym cut) ∙ i.1))
      | else-p-low w ↦ rw (w.best-is, w.low-is)
          (i.0, other_turn priority_in _ _ k _ _ (omega (arith, w.if-p-low.false, e)) ∙ ap (found priority_in _ _ k) (sym cut) ∙ i.1)
    ]

pub returns : goal.returns
returns c =
    let (l, f) = c.loop-k.invariant in
    let frames = c.args.frames.now in
    let k = c.loop-k.k in
    let best = c.loop-k.best in
    let e = sym (at_end priority_in best c.loop-k.low k l) ∙ ap (found priority_in best c.loop-k.low k) (sym (drop_of_length-le frames {i = k} (omega (arith, c.loop-k-test.false, c.loop-k.auto.k-end)))) ∙ f in
    let some : length frames ≢ 0 = eqb-false _ _ (sym c.is_empty.ensures ∙ c.if-is_empty.false) in
    (rw e (place-below priority_in number_few frames (omega (arith, some))), e)
