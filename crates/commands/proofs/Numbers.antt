-- The number of a pair is no other pair's. Assumes nothing.
use mathlib.Core.Path.{◌≡◌}
use mathlib.Core.Bool.{true}
use Prim.Native.Nat.{ℕ, ◌<◌}
use native.Mathlib.Decide.{dec_lt}
use native.Mathlib.Omega.{arith}
use Rattle.ports.specs.Filters.{two_ports, pair_of}
use Rattle.ports.proofs.Numbers.{Two, two, number_above, number-below}

pub number_own : (f t f' t' : ℕ) → two_ports f t ≡ true → two_ports f' t' ≡ true
    → pair_of f t ≡ pair_of f' t' → (f ≡ f') × (t ≡ t')
number_own f t f' t' e e' q = go (two f t e) (two f' t' e') (dec_lt t f) (dec_lt t' f')
  where
    go : Two f t → Two f' t' → Dec (t < f) → Dec (t' < f') → (f ≡ f') × (t ≡ t')
    go b b' (yes h) (yes h') =
        let p = number_above f t e h in
        let p' = number_above f' t' e' h' in
        (omega arith, omega arith)
    go b b' (yes h) (no h') =
        let p = number_above f t e h in
        let p' = number-below f' t' e' (omega arith) in
        (omega arith, omega arith)
    go b b' (no h) (yes h') =
        let p = number-below f t e (omega arith) in
        let p' = number_above f' t' e' h' in
        (omega arith, omega arith)
    go b b' (no h) (no h') =
        let p = number-below f t e (omega arith) in
        let p' = number-below f' t' e' (omega arith) in
        (omega arith, omega arith)
