-- Numbers that need no more than their widths. Assumes nothing.
use mathlib.Core.Path.{◌≡◌, sym}
use mathlib.Core.Bool.{not}
use mathlib.Core.List.{List}
use Prim.Native.Nat.{ℕ, ◌/◌, ◌^◌}
use native.Mathlib.Nat.{one-mul, div-eq_of_lt, div-lt_iff_lt-mul}
use native.Mathlib.Decide.{dec_lt}
use native.Mathlib.Omega.{arith}
use borrow.Author.Tests.{leb-false, le-leb, lt-leb, ne_eqb}
use lib.Dec.{leb, eqb}
use lib.ListN.{length}
use lib.Pow.{pow_pos}
use Rattle.words.proofs.Lowest.{lowest_none, lowest-each}
use Rattle.payload.specs.Payload.{Fit}
use Rattle.payload.specs.Calls.{needs_more, too_wide_in}

-- a number needs more than w bits where something is left above them
pub more_by_shift : (v w : ℕ) → not (eqb (v / 2 ^ w) 0) ≡ leb (2 ^ w) v
more_by_shift v w =
    elim (dec_lt v (2 ^ w)) [
      | yes l ↦ rw (div-eq_of_lt l) (sym (lt-leb _ _ l))
      | no l ↦ rw (ne_eqb (v / 2 ^ w) 0 (λ (e : v / 2 ^ w ≡ 0). l (rw one-mul at ((div-lt_iff_lt-mul {x = v} {y = 1} (pow_pos w)).0 (omega arith)))))
          (sym (le-leb (2 ^ w) v (omega arith)))
    ]

-- where no number needs more than its width, the numbers fit
pub none_wide : (ss ws vs : List ℕ) → length vs ≡ length ss → too_wide_in ws vs ≡ 0 → Fit ss ws vs
unfolding too_wide_in needs_more
none_wide ss ws vs e t = record { count = e; each = λ i l. leb-false _ _ (lowest-each _ (length vs) t i (omega arith)) }

pub fit_none_wide : (ss ws vs : List ℕ) → Fit ss ws vs → too_wide_in ws vs ≡ 0
unfolding too_wide_in needs_more
fit_none_wide ss ws vs f = lowest_none _ (length vs) (λ i l. lt-leb _ _ (f.each i (omega (arith, f.count))))
