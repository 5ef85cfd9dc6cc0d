-- `end_bit`: the end is the sum. Assumes nothing.
use mathlib.Core.Path.{sym, ap, ◌∙◌}
use Prim.Native.Nat.{ℕ, ◌+◌}
use Rattle.places.proofs.Place.{end_runs}
use Rattle.places.proofs.end_bit.Goals as goal

pub returns : goal.returns
returns c =
    let a = c.args in
    ap (λ (g : ℕ). a.start + g + a.width) c.skipped_bits.ensures ∙ sym (end_runs a.start a.width)
