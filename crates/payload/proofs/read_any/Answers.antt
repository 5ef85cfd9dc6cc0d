-- `read_any`: each return by the tests that led there. Assumes nothing.
use mathlib.Core.Path.{◌≡◌}
use Prim.Native.Nat.{◌<◌}
use native.Mathlib.Omega.{arith}
use borrow.Author.Rules.{rules}
use borrow.Author.Tests.{lt-ltb}
use Rattle.std.proofs.lemmas.Result.{err_from_is_err_and}
use Rattle.places.specs.Place.{unplaced_in}
use Rattle.places.proofs.Placed.{placed_count}
use Rattle.payload.specs.declared.Unlaid.TheVariants.{Unplaced}
use Rattle.payload.specs.Calls.{reading}
use Rattle.payload.proofs.read_any.Goals as goal

pub returns-in_err-end : goal.returns-in_err-end
unfolding reading
returns-in_err-end c =
    let p = err_from_is_err_and c.from_residual.result c.from_residual.ensures.1 in
    let a = c.args in
    let q : (c.in_err-end.field-0.0 ≡ Unplaced (unplaced_in a.starts.now a.widths.now)) × (0 < unplaced_in a.starts.now a.widths.now) = search rules in
    rw (p.1, p.2, q.0) (rw (lt-ltb 0 (unplaced_in a.starts.now a.widths.now) q.1))

pub returns-then-payload-size : goal.returns-then-payload-size
unfolding reading
returns-then-payload-size c =
    let u : unplaced_in c.args.starts.now c.args.widths.now ≡ 0 = search rules in
    simp (u, ← c.map_size-size.ensures.0, c.if-payload-size.true)

pub overflow_cast-result : goal.overflow_cast-result
overflow_cast-result c =
    let u : unplaced_in c.args.starts.now c.args.widths.now ≡ 0 = search rules in
    omega (arith, placed_count c.args.starts.now c.args.widths.now u)

pub returns : goal.returns
unfolding reading
returns c =
    let u : unplaced_in c.args.starts.now c.args.widths.now ≡ 0 = search rules in
    simp (u, ← c.map_size-size.ensures.0, c.if-payload-size.false, ← c.read_into.ensures)
