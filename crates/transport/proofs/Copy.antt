-- What a loop that copies bytes one after another leaves. Assumes nothing.
use mathlib.Core.Path.{◌≡◌, refl, ap}
use mathlib.Core.List.{List, [], ◌∷◌, ◌++◌}
use Prim.Native.Nat.{ℕ, zero, suc, ◌+◌, ◌≤◌, ◌<◌, min}
use native.Mathlib.Nat.{le_of_suc-le-suc, not-suc-le-zero}
use native.Mathlib.Numerals.{add-one}
use native.Mathlib.Decide.{dec_lt}
use native.Mathlib.Omega.{arith}
use lib.ListN.{length, get_or, take, drop, set, drop_of_length-le}
use lib.Seq.{take_all}
use Rattle.splice.specs.Splice.{covered}

-- one element more is copied
copy_suc : (d s : List ℕ) (i : ℕ) → i < length s → i < length d → set (take i s ++ drop i d) i (get_or s i 0) ≡ take (suc i) s ++ drop (suc i) d
copy_suc d [] i h k = absurd (not-suc-le-zero h)
copy_suc [] (y ∷ s) i h k = absurd (not-suc-le-zero k)
copy_suc (x ∷ d) (y ∷ s) zero h k = refl
copy_suc (x ∷ d) (y ∷ s) (suc i) h k = ap (λ (l : List ℕ). y ∷ l) (copy_suc d s i (le_of_suc-le-suc h) (le_of_suc-le-suc k))

pub copy_more : (d s : List ℕ) (i : ℕ) → i < length s → i < length d → set (take i s ++ drop i d) i (get_or s i 0) ≡ take (i + 1) s ++ drop (i + 1) d
copy_more d s i h k = rw add-one (copy_suc d s i h k)

-- the copy is whole where either list ends
copied_short : (d s : List ℕ) → length d ≤ length s → take (length d) s ++ drop (length d) d ≡ covered d s
copied_short d s h = rw (drop_of_length-le d {i = length d} (omega arith), drop_of_length-le d {i = length s} h)

copied_whole : (d s : List ℕ) → length s ≤ length d → take (length s) s ++ drop (length s) d ≡ covered d s
copied_whole d s h = rw (take_all (length s) s (omega arith), take_all (length d) s h)

pub copied : (d s : List ℕ) (i : ℕ) → i ≡ min (length d) (length s) → take i s ++ drop i d ≡ covered d s
copied d s i e =
    elim (dec_lt (length d) (length s)) [
      | yes l ↦ let q : i ≡ length d = omega arith in rw q (copied_short d s (omega arith))
      | no l ↦ let q : i ≡ length s = omega arith in rw q (copied_whole d s (omega arith))
    ]
