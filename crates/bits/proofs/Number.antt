-- A parameter's number, laid at its places and read from them. Assumes nothing.
use mathlib.Core.Path.{◌≡◌, refl, sym, ap, ap₂, ◌∙◌}
use mathlib.Core.Bool.{true, false, ◌&&◌, and-eq-true_iff}
use mathlib.Core.List.{List}
use Prim.Native.Nat.{ℕ, ◌+◌, ◌-◌, ◌*◌, ◌/◌, ◌%◌, ◌^◌, ◌≤◌, ◌<◌}
use native.Mathlib.Nat.{mod-eq_of_lt, lt_of_lt_of_le}
use native.Mathlib.Omega.{arith}
use borrow.Author.Tests.{le-leb, leb-true}
use lib.Dec.{leb}
use lib.ListN.{length, get_or}
use lib.Pow.{pow_mono}
use Rattle.places.specs.Place.{odd, skipped, place, end_of}
use Rattle.places.proofs.Place.{whole, left, by_runs, low_run, left-run, one-run, end_runs, even_skips}
use Rattle.bits.specs.Bits.{bit, bit_at, from_bits, bytes_with, bit_after, lies_in, with_number, read_number, number_in, run_at}
use Rattle.bits.proofs.Bits.{bit_shr, bit_at_lt, from_lt, from-same, from-add, length-bytes, bytes_same, bytes_by_bits, bit-bytes}
use Rattle.bits.proofs.After.{after_same, after-add}

-- ---- a parameter is one run, or two: what laying and fetching rest on

pub laid-run : (s w v p b : ℕ) → skipped w ≡ 0 → bit_after (λ i. s + i) (bit v) w p b ≡ bit_after (place s w) (bit v) w p b
laid-run s w v p b e = after_same (λ i. s + i) (bit v) (place s w) (bit v) w p b (λ i l. sym (one-run s w i e)) (λ i l. refl)

pub laid_runs : (s w v p b : ℕ)
    → bit_after (λ i. left s w + i) (bit (v / 2 ^ whole w)) (w - whole w) p (bit_after (λ i. s + i) (bit v) (whole w) p b)
    ≡ bit_after (place s w) (bit v) w p b
laid_runs s w v p b =
    by_runs (λ x d. bit_after (λ i. left s w + i) (bit (v / 2 ^ whole w)) d p (bit_after (λ i. s + i) (bit v) (whole w) p b) ≡ bit_after (place s w) (bit v) x p b) w
    (λ d e. ap (bit_after (λ i. left s w + i) (bit (v / 2 ^ whole w)) d p)
    (after_same (λ i. s + i) (bit v) (place s w) (bit v) (whole w) p b (λ i l. sym (low_run s w i l)) (λ i l. refl))
    ∙ after_same (λ i. left s w + i) (bit (v / 2 ^ whole w)) (λ i. place s w (whole w + i)) (λ i. bit v (whole w + i)) d p _
    (λ i l. sym (left-run s w i)) (λ i l. bit_shr v (whole w) i)
    ∙ sym (after-add (place s w) (bit v) (whole w) d p b))

pub read_run : (xs : List ℕ) (s w : ℕ) → skipped w ≡ 0 → run_at xs s w ≡ read_number xs s w
unfolding read_number run_at
read_run xs s w e = from-same _ _ w (λ i l. ap (bit_at xs) (sym (one-run s w i e)))

read_runs : (xs : List ℕ) (s w : ℕ) → run_at xs (left s w) (w - whole w) * 2 ^ whole w + run_at xs s (whole w) ≡ read_number xs s w
unfolding read_number run_at
read_runs xs s w =
    by_runs (λ x d. from_bits (λ i. bit_at xs (left s w + i)) d * 2 ^ whole w + from_bits (λ i. bit_at xs (s + i)) (whole w) ≡ from_bits (λ i. bit_at xs (place s w i)) x) w
    (λ d e. ap₂ (λ (x y : ℕ). x * 2 ^ whole w + y)
    (from-same _ _ d (λ i l. ap (bit_at xs) (sym (left-run s w i))))
    (from-same _ _ (whole w) (λ i l. ap (bit_at xs) (sym (low_run s w i l))))
    ∙ sym (from-add (λ i. bit_at xs (place s w i)) (whole w) d))

-- as the code adds the two: y is the run of the whole bytes, z that of the bits left over
pub two_runs : (xs : List ℕ) (s w y z : ℕ) → w ≤ 32 → y ≡ run_at xs s (whole w) → z ≡ run_at xs (left s w) (w - whole w)
    → (y + z * 2 ^ whole w % 2 ^ 32 ≡ read_number xs s w) × (read_number xs s w < 2 ^ 32)
unfolding read_number
two_runs xs s w y z h e f = (ap (λ (x : ℕ). y + x) (mod-eq_of_lt part) ∙ omega (arith, sum), small)
  where
    sum : z * 2 ^ whole w + y ≡ read_number xs s w
    sum = rw (e, f) (read_runs xs s w)

    small : read_number xs s w < 2 ^ 32
    small = lt_of_lt_of_le (from_lt _ (λ i. bit_at_lt xs _) w) (pow_mono h)

    part : z * 2 ^ whole w < 2 ^ 32
    part = omega (arith, sum, small)

-- ---- whether a number lies in the bytes

pub lies : (n s w : ℕ) → lies_in n s w ≡ true → (w ≤ 32) × (end_of s w ≤ 8 * n)
unfolding lies_in
lies n s w e = let (a, b) = (and-eq-true_iff (leb w 32) (leb (end_of s w) (8 * n))).0 e in (leb-true _ _ a, leb-true _ _ b)

pub lies_in_lem : (n s w : ℕ) → w ≤ 32 → end_of s w ≤ 8 * n → lies_in n s w ≡ true
unfolding lies_in
lies_in_lem n s w l h = rw (le-leb w 32 l, le-leb (end_of s w) (8 * n) h)

-- of a width that skips no bit: where its one run does
pub even-lies : (n s w : ℕ) → odd w ≡ false → (leb w 32 && leb (s + w) (8 * n)) ≡ lies_in n s w
unfolding lies_in
even-lies n s w e = ap (λ (x : ℕ). leb w 32 && leb x (8 * n)) (omega (arith, end_runs s w, even_skips w e))

-- ---- laid

-- bytes whose bits are those that laying makes of others
pub put-number : (xs ys : List ℕ) (s w v : ℕ) → lies_in (length xs) s w ≡ true → length ys ≡ length xs → ((k : ℕ) → get_or ys k 0 < 256)
    → ((p : ℕ) → bit_at ys p ≡ bit_after (place s w) (bit v) w p (bit_at xs p)) → ys ≡ with_number xs s w v
unfolding with_number
put-number xs ys s w v e l b h = rw e (bytes_by_bits _ ys (length xs) l b (λ p m. h p))

-- laid into bytes that are given by their bits
pub number-laid : (f : ℕ → ℕ) → ((p : ℕ) → f p < 2) → (n s w v : ℕ) → lies_in n s w ≡ true
    → with_number (bytes_with f n) s w v ≡ bytes_with (λ p. bit_after (place s w) (bit v) w p (f p)) n
unfolding with_number
number-laid f b n s w v e =
    rw (length-bytes f n, e) (bytes_same _ _ n (λ p l. ap (bit_after (place s w) (bit v) w p) (bit-bytes f b n p l)))

-- ---- read

pub number_read : (payload : List ℕ) (s w : ℕ) → lies_in (length payload) s w ≡ true → number_in payload s w ≡ read_number payload s w
unfolding number_in
number_read payload s w e = rw e
