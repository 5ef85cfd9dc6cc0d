-- `record::bytes_of` meets its contract: a number is the sum of its four bytes. Assumes nothing.
use Prim.Native.Nat.{◌/◌, ◌%◌}
use mathlib.Core.Path.{◌≡◌}
use native.Mathlib.Omega.{arith}
use Rattle.record.specs.Record.{bytes_of}
use Rattle.record.proofs.bytes_of.Goals as goal

pub returns : goal.returns
unfolding bytes_of
returns c =
    let top : c.args.id / 16777216 % 256 ≡ c.args.id / 16777216 = omega (arith, c.ranges.id.fits) in
    simp (c.to_le_bytes.ensures, top)
