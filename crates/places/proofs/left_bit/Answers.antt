-- `left_bit`: the second run of a parameter begins there. Assumes nothing.
use mathlib.Core.Path.{sym, ap, ◌∙◌}
use Prim.Native.Nat.{ℕ, ◌+◌}
use Rattle.places.proofs.Place.{whole, left-place}
use Rattle.places.proofs.left_bit.Goals as goal

pub returns : goal.returns
returns c =
    let a = c.args in
    ap (λ (g : ℕ). a.start + g + whole a.width) c.skipped_bits.ensures ∙ sym (left-place a.start a.width)
