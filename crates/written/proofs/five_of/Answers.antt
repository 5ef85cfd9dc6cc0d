-- `written::five_of` meets its contract: the definition itself, but that the start is cut to a byte before 1 is added. Assumes nothing.
use Prim.Native.Nat.{ℕ, ◌+◌, ◌%◌}
use mathlib.Core.Path.{◌≡◌, ap}
use mathlib.Core.List.{[], ◌∷◌}
use native.Mathlib.Omega.{arith}
use Rattle.frame.specs.Frame.{spn_bytes}
use Rattle.written.specs.Written.{head_byte, five_of}
use Rattle.written.proofs.five_of.Goals as goal

-- the starting bit, counted from 1
cut-first : (start : ℕ) → (start % 256 + 1) % 256 ≡ (start + 1) % 256
cut-first start = omega arith

pub returns : goal.returns
unfolding five_of
returns c =
    let a = c.args in
    let b = spn_bytes a.x.spn a.position in
    rw (c.spn_bytes-b.ensures, c.head_byte-flags.ensures)
    (ap (λ (n : ℕ). b.first ∷ b.second ∷ b.third ∷ head_byte a.h ∷ n ∷ []) (cut-first a.x.start))
