-- Laying a number into eight bytes that are held as one number. Assumes nothing.
use mathlib.Core.Path.{◌≡◌, refl, sym, ap, ◌∙◌}
use mathlib.Core.Bool.{true, false, cond}
use mathlib.Core.List.{List}
use Prim.Native.Nat.{ℕ, ◌+◌, ◌-◌, ◌*◌, ◌/◌, ◌%◌, ◌^◌, ◌≤◌, ◌<◌}
use native.Mathlib.Nat.{zero-add, mod-eq_of_lt}
use native.Mathlib.Omega.{arith}
use lib.Dec.{eqb}
use lib.ListN.{length}
use Rattle.words.proofs.Tests.{test}
use Rattle.places.specs.Place.{skipped, place, end_of}
use Rattle.places.proofs.Place.{whole, left}
use Rattle.bits.specs.Bits.{bit, bit_at, from_bits, bit_after, lies_in, with_number, run_at}
use Rattle.bits.proofs.After.{after_all}
use Rattle.bits.proofs.Bits.{bit_lt, bit-mod, bit_at_lt, bit-from, from-same, from_of, bit-bytes}
use Rattle.bits.proofs.Number.{lies_in_lem, laid-run, laid_runs}
use Rattle.bits.proofs.Run.{masked_in, masked-run}
use Rattle.single.specs.Single.{lies_there, laid_at, laid_on}
use Rattle.single.proofs.Cutting.{without}

-- a number of 64 bits is what its bits say
by_bits : (f : ℕ → ℕ) (x : ℕ) → x < 2 ^ 64 → ((p : ℕ) → p < 64 → bit x p ≡ f p) → x ≡ from_bits f 64
by_bits f x l h = sym (mod-eq_of_lt l) ∙ sym (from_of x 64) ∙ from-same (bit x) f 64 h

-- ---- a run by its mask, as the code shifts them: x is the number afterwards

pub run-laid : (word s w v ones x : ℕ) → s + w ≤ 64 → ones ≡ 2 ^ w - 1 → x < 2 ^ 64
    → ((p : ℕ) → p < 64 → bit x p ≡ cond (eqb (bit (ones * 2 ^ s % 2 ^ 64) p) 1) (bit (v * 2 ^ s % 2 ^ 64) p) (bit word p)) → x ≡ laid_at (λ i. s + i) w word v
run-laid word s w v ones x h e l g = by_bits _ x l laid
  where
    laid : (p : ℕ) → p < 64 → bit x p ≡ bit_after (λ i. s + i) (bit v) w p (bit word p)
    laid p m =
        let q : p - 8 * 0 ≡ p = omega arith in
        g p m
        ∙ rw (e, bit-mod ((2 ^ w - 1) * 2 ^ s) 64 p m, bit-mod (v * 2 ^ s) 64 p m)
        (sym (rw q at (masked_in 0 8 ((2 ^ w - 1) * 2 ^ s) (v * 2 ^ s) p (bit word p) (omega arith) (omega arith)))
        ∙ masked-run 0 8 s s w v p (bit word p) (omega arith) (omega arith))

-- ---- a parameter is one run, or two

-- bits that are laid on bits are bits
laid_lt : (at : ℕ → ℕ) (v n p b : ℕ) → b < 2 → bit_after at (bit v) n p b < 2
laid_lt at v n p b h = after_all (λ (x : ℕ). x < 2) at (bit v) n p b (λ i l e. bit_lt v i) h

pub one-laid : (word s w v x : ℕ) → skipped w ≡ 0 → x ≡ laid_at (λ i. s + i) w word v → x ≡ laid_at (place s w) w word v
one-laid word s w v x e f = f ∙ from-same _ _ 64 (λ p l. laid-run s w v p (bit word p) e)

pub two_laid : (word s w v low : ℕ) → low ≡ laid_at (λ i. s + i) (whole w) word v
    → laid_at (λ i. left s w + i) (w - whole w) low (v / 2 ^ whole w) ≡ laid_at (place s w) w word v
two_laid word s w v low e =
    from-same _ _ 64
    (λ p l. ap (bit_after (λ i. left s w + i) (bit (v / 2 ^ whole w)) (w - whole w) p)
    (ap (λ (x : ℕ). bit x p) e ∙ bit-from _ (λ i. laid_lt (λ i. s + i) v (whole w) i (bit word i) (bit_lt word i)) 64 p l)
    ∙ laid_runs s w v p (bit word p))

-- ---- where it lies in eight bytes it is laid, and else, or where it has no bit, nothing is

pub laid-lies : (word s w v x : ℕ) → w ≤ 32 → end_of s w ≤ 64 → x ≡ laid_at (place s w) w word v → x ≡ laid_on word s w v
unfolding laid_on
laid-lies word s w v x l h e = rw (lies_in_lem 8 s w l h) e

pub laid-not : (word s w v : ℕ) → word < 2 ^ 64 → lies_there s w ≡ false → laid_on word s w v ≡ word
unfolding laid_on bit_after
laid-not word s w v l n =
    test (lies_in 8 s w)
    (λ y. let e : w ≡ 0 = without s w n y in rw (y, e) (sym (by_bits (bit word) word l (λ p m. refl))))
    (λ f. rw f)

-- ---- THE BITS OF THE PAYLOAD

-- laid on a number that is given by its bits
pub word-laid : (f : ℕ → ℕ) → ((p : ℕ) → f p < 2) → (s w v : ℕ) → lies_in 8 s w ≡ true
    → laid_on (from_bits f 64) s w v ≡ from_bits (λ p. bit_after (place s w) (bit v) w p (f p)) 64
unfolding laid_on
word-laid f b s w v e = rw e (from-same _ _ 64 (λ p l. ap (bit_after (place s w) (bit v) w p) (bit-from f b 64 p l)))

-- what is laid is what `bits` lays
pub laid-is-put : (xs : List ℕ) (s w v : ℕ) → length xs ≡ 8 → laid_on (run_at xs 0 64) s w v ≡ run_at (with_number xs s w v) 0 64
unfolding laid_on run_at with_number
laid-is-put xs s w v long =
    rw long
    (test (lies_in 8 s w)
    (λ y. word-laid (λ p. bit_at xs (0 + p)) (λ p. bit_at_lt xs (0 + p)) s w v y
    ∙ rw y (from-same _ _ 64 (λ p l. rw zero-add (sym (bit-bytes (λ p. bit_after (place s w) (bit v) w p (bit_at xs p)) (λ p. laid_lt (place s w) v w p (bit_at xs p) (bit_at_lt xs p)) 8 p l)))))
    (λ f. rw f))
