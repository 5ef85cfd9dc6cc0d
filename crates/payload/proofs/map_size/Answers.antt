-- `map_size`: the bytes for the largest end. Assumes nothing.
use native.Mathlib.Omega.{arith}
use Rattle.places.proofs.Placed.{size-most, size-measured}
use Rattle.payload.proofs.map_size.Goals as goal

pub returns : goal.returns
returns c =
    let e = size-measured c.args.starts.now c.args.widths.now _ _ c.requires.0 c.requires.1 c.bytes_for.ensures in
    (e, omega (arith, e, size-most c.args.starts.now c.args.widths.now c.requires.0))
