-- `pack_any`: each return by the tests that led there. Assumes nothing.
use mathlib.Core.Path.{◌≡◌}
use Prim.Native.Nat.{◌≤◌, ◌<◌}
use native.Mathlib.Omega.{arith}
use borrow.Author.Rules.{rules}
use borrow.Author.Tests.{lt-ltb}
use lib.ListN.{length}
use Rattle.std.proofs.lemmas.Result.{err_from_is_err_and}
use Rattle.places.specs.Place.{unplaced_in}
use Rattle.places.proofs.Placed.{placed_widths, placed_count, placed_in}
use Rattle.payload.specs.declared.Unlaid.TheVariants.{Unplaced}
use Rattle.payload.specs.Calls.{packing, too_wide_in}
use Rattle.payload.proofs.Turns.{lengths}
use Rattle.payload.proofs.pack_any.Goals as goal

pub returns-in_err-end : goal.returns-in_err-end
unfolding packing
returns-in_err-end c =
    let p = err_from_is_err_and c.from_residual.result c.from_residual.ensures.1 in
    let a = c.args in
    let q : (c.in_err-end.field-0.0 ≡ Unplaced (unplaced_in a.starts.now a.widths.now)) × (0 < unplaced_in a.starts.now a.widths.now) = search rules in
    rw (p.1, p.2, q.0) (rw (lt-ltb 0 (unplaced_in a.starts.now a.widths.now) q.1))

pub returns-then-numbers-starts : goal.returns-then-numbers-starts
unfolding packing
returns-then-numbers-starts c =
    let a = c.args in
    let u : unplaced_in a.starts.now a.widths.now ≡ 0 = search rules in
    simp (u, ← c.map_size-size.ensures.0, c.if-numbers-starts.true)

pub too_wide-requires : goal.too_wide-requires
too_wide-requires c =
    let a = c.args in
    let r : (length a.numbers.now ≡ length a.starts.now) × (c.map_size-size.result ≤ length a.out.now) = lengths _ _ _ _ c.if-numbers-starts.false in
    let u : unplaced_in a.starts.now a.widths.now ≡ 0 = search rules in (
      omega (arith, r, placed_widths a.starts.now a.widths.now u),
      omega (arith, r, placed_count a.starts.now a.widths.now u),
      λ i l. (placed_in a.starts.now a.widths.now u i (omega (arith, r, l))).0,
    )

pub returns-in-Some : goal.returns-in-Some
unfolding packing
returns-in-Some c =
    let a = c.args in
    let u : unplaced_in a.starts.now a.widths.now ≡ 0 = search rules in
    let w : (0 < c.in-Some.position) × (c.in-Some.position ≡ too_wide_in a.widths.now a.numbers.now) = search rules in
    simp (u, ← c.map_size-size.ensures.0, c.if-numbers-starts.false, ← w.1, lt-ltb _ _ w.0)

pub returns : goal.returns
unfolding packing
returns c =
    let a = c.args in
    let u : unplaced_in a.starts.now a.widths.now ≡ 0 = search rules in
    let w : too_wide_in a.widths.now a.numbers.now ≡ 0 = search rules in
    simp (u, ← c.map_size-size.ensures.0, c.if-numbers-starts.false, w, ← c.pack_into.ensures)
