-- Cutting a number out of eight bytes that are held as one number. Assumes nothing.
use mathlib.Core.Path.{◌≡◌, sym, ap, ap₂, ◌∙◌}
use mathlib.Core.Bool.{true, false, ◌&&◌, and-eq-true_iff}
use mathlib.Core.List.{List, ◌++◌}
use Prim.Native.Nat.{ℕ, ◌+◌, ◌-◌, ◌*◌, ◌/◌, ◌%◌, ◌^◌, ◌≤◌, ◌<◌}
use native.Mathlib.Nat.{mod-eq_of_lt, lt_of_lt_of_le}
use native.Mathlib.Omega.{arith}
use native.Mathlib.Decide.{dec_lt}
use lib.Pow.{pow_mono}
use lib.ListN.{length, get_or, drop}
use lib.Dec.{leb, ltb}
use borrow.Author.Tests.{not-true, not-false, le-leb, leb-true, lt-ltb, le-ltb, ltb-true}
use Rattle.words.proofs.Lowest.{any-each}
use Rattle.words.proofs.Tests.{test, never, same_test}
use Rattle.places.specs.Place.{odd, skipped, place, end_of}
use Rattle.places.proofs.Place.{whole, left, by_runs, low_run, left-run, left-place, one-run, end_runs, even_skips, odd_skips}
use Rattle.bits.specs.Bits.{bit, bit_at, from_bits, lies_in, read_number, number_in, run_at}
use Rattle.bits.proofs.Bits.{bit_lt, bit_shr, bit_at_lt, from_lt, bit-from, from-same, from_of, from-add}
use Rattle.bits.proofs.Number.{lies, lies_in_lem}
use Rattle.single.specs.Single.{run_in, number_of, lies_there, cut_from, all_lie, numbers_of, taking, taken}

-- ---- runs of a number's bits

run-bits : (word from n : ℕ) → run_in word from n ≡ from_bits (λ i. bit word (from + i)) n
run-bits word from n = sym (from_of (word / 2 ^ from) n) ∙ from-same _ _ n (λ i l. bit_shr word from i)

-- where nothing is skipped a number is one run
pub one-run-is : (word s w : ℕ) → skipped w ≡ 0 → run_in word s w ≡ number_of word s w
unfolding number_of
one-run-is word s w e = run-bits word s w ∙ from-same _ _ w (λ i l. ap (bit word) (sym (one-run s w i e)))

-- and else two, as the code adds them: y is the run of the whole bytes, z that of the bits left over
two_runs : (word s w : ℕ) → run_in word (left s w) (w - whole w) * 2 ^ whole w + run_in word s (whole w) ≡ number_of word s w
unfolding number_of
two_runs word s w =
    ap₂ (λ (x y : ℕ). x * 2 ^ whole w + y) (run-bits word (left s w) (w - whole w)) (run-bits word s (whole w))
    ∙ by_runs (λ x d. from_bits (λ i. bit word (left s w + i)) d * 2 ^ whole w + from_bits (λ i. bit word (s + i)) (whole w) ≡ from_bits (λ i. bit word (place s w i)) x) w
    (λ d e. ap₂ (λ (x y : ℕ). x * 2 ^ whole w + y)
    (from-same _ _ d (λ i l. ap (bit word) (sym (left-run s w i))))
    (from-same _ _ (whole w) (λ i l. ap (bit word) (sym (low_run s w i l))))
    ∙ sym (from-add (λ i. bit word (place s w i)) (whole w) d))

pub number_small : (word s w : ℕ) → w ≤ 32 → number_of word s w < 2 ^ 32
unfolding number_of
number_small word s w h = lt_of_lt_of_le (from_lt _ (λ i. bit_lt word _) w) (pow_mono h)

pub two_runs_are : (word s w y z : ℕ) → w ≤ 32 → y ≡ run_in word s (whole w) → z ≡ run_in word (left s w) (w - whole w)
    → (y + z * 2 ^ whole w % 2 ^ 32 ≡ number_of word s w) × (number_of word s w < 2 ^ 32)
two_runs_are word s w y z h e f = (ap (λ (x : ℕ). y + x) (mod-eq_of_lt part) ∙ omega (arith, sum), small)
  where
    sum : z * 2 ^ whole w + y ≡ number_of word s w
    sum = rw (e, f) (two_runs word s w)

    small : number_of word s w < 2 ^ 32
    small = number_small word s w h

    part : z * 2 ^ whole w < 2 ^ 32
    part = omega (arith, sum, small)

-- where its two runs stand, of one that lies in eight bytes: the second begins at l
pub odd_lies : (s w l : ℕ) → odd w ≡ true → end_of s w ≤ 64 → l ≡ place s w (whole w) → (l ≡ left s w) × (s + whole w ≤ l) × (l < 64) × (l + (w - whole w) ≤ 64) × (whole w < w)
odd_lies s w l o h e =
    let at : l ≡ left s w = e ∙ left-place s w in (at, omega (arith, at), omega (arith, at, end_runs s w, odd_skips w o), omega (arith, at, end_runs s w), omega (arith, odd_skips w o))

-- ---- where it does not lie in eight bytes, or has no bit, it is 0

pub cut_lies : (word s w : ℕ) → w ≤ 32 → end_of s w ≤ 64 → cut_from word s w ≡ number_of word s w
unfolding cut_from
cut_lies word s w l h = rw (lies_in_lem 8 s w l h)

pub there : (s w : ℕ) → lies_there s w ≡ true → (1 ≤ w) × (w ≤ 32) × (end_of s w ≤ 64)
there s w e =
    let (a, b) = (and-eq-true_iff (leb 1 w && leb w 32) (leb (end_of s w) 64)).0 e in
    let (c, d) = (and-eq-true_iff (leb 1 w) (leb w 32)).0 a in
    (leb-true 1 w c, leb-true w 32 d, leb-true _ 64 b)

-- a width of eight bits or less is not odd
pub narrow : (w : ℕ) → w ≤ 8 → odd w ≡ false
unfolding odd
narrow w l = rw (le-ltb 8 w l)

-- the end of one that skips no bit
pub even_end : (s w : ℕ) → odd w ≡ false → end_of s w ≡ s + w
even_end s w e = omega (arith, end_runs s w, even_skips w e)

-- the same in parts below 64, whose sum is the end where it lies there
pub in_parts : (s w e : ℕ) → e ≡ s % 64 + skipped w + w % 64 → (leb 1 w && leb w 32 && ltb s 64 && leb e 64) ≡ lies_there s w
in_parts s w e q = same_test _ _ lie back
  where
    lie : (leb 1 w && leb w 32 && ltb s 64 && leb e 64) ≡ true → lies_there s w ≡ true
    lie y =
        let (f, g) = (and-eq-true_iff (leb 1 w && leb w 32 && ltb s 64) (leb e 64)).0 y in
        let (h, k) = (and-eq-true_iff (leb 1 w && leb w 32) (ltb s 64)).0 f in
        let (c, d) = (and-eq-true_iff (leb 1 w) (leb w 32)).0 h in
        rw (c, d) (le-leb (end_of s w) 64 (omega (arith, end_runs s w, q, leb-true w 32 d, ltb-true s 64 k, leb-true e 64 g)))

    back : lies_there s w ≡ true → (leb 1 w && leb w 32 && ltb s 64 && leb e 64) ≡ true
    back y =
        let p = there s w y in
        let l : s < 64 = omega (arith, end_runs s w, p) in
        let m : e ≤ 64 = omega (arith, end_runs s w, p, q) in
        rw (le-leb 1 w p.0, le-leb w 32 p.1, lt-ltb s 64 l) (le-leb e 64 m)

-- what lies in eight bytes, and does not lie there with a bit, has none
pub without : (s w : ℕ) → lies_there s w ≡ false → lies_in 8 s w ≡ true → w ≡ 0
without s w n y =
    let (a, b) = lies 8 s w y in
    elim (dec_lt 0 w) [
      | yes q ↦ never (rw (le-leb 1 w (omega arith), le-leb w 32 a, le-leb (end_of s w) 64 b)) n
      | no q ↦ omega arith
    ]

pub cut_not : (word s w : ℕ) → lies_there s w ≡ false → cut_from word s w ≡ 0
unfolding cut_from number_of from_bits
cut_not word s w n = test (lies_in 8 s w) (λ y. let e : w ≡ 0 = without s w n y in rw (y, e)) (λ f. rw f)

-- ---- the numbers of a map

pub lies_at : (ss ws : List ℕ) → all_lie ss ws ≡ true → (i : ℕ) → i < length ss → lies_there (get_or ss i 0) (get_or ws i 0) ≡ true
unfolding all_lie
lies_at ss ws e i l = not-false _ (any-each _ (length ss) (not-true _ e) i l)

module _ (word : ℕ) (ss ws held : List ℕ) where
  pub not_taken : taking ss ws (length held) ≡ false → held ≡ taken word ss ws held
  unfolding taken
  not_taken e = rw e

  pub all_taken : taking ss ws (length held) ≡ true → (numbers : List ℕ) → numbers ≡ numbers_of word ss ws → numbers ++ drop (length ss) held ≡ taken word ss ws held
  unfolding taken
  all_taken e numbers f = rw (e, f)

-- ---- THE BITS OF THE PAYLOAD

-- a bit stands below the end of its parameter
place_inside : (s w i : ℕ) → i < w → place s w i < end_of s w
place_inside s w i l =
    rw (end_runs s w)
    (elim (dec_lt i (whole w)) [
      | yes h ↦ omega (arith, low_run s w i h)
      | no h ↦ let e : whole w + (i - whole w) ≡ i = omega arith in omega (arith, rw e at (left-run s w (i - whole w)))
    ])

-- bit p of the number is payload bit p
pub same_bits : (xs : List ℕ) (p : ℕ) → p < 64 → bit (run_at xs 0 64) p ≡ bit_at xs p
unfolding run_at
same_bits xs p l = bit-from (λ i. bit_at xs (0 + i)) (λ i. bit_at_lt xs _) 64 p l ∙ ap (bit_at xs) (omega arith)

-- so what is cut out is what `bits` reads
pub cut_is_read : (xs : List ℕ) (s w : ℕ) → length xs ≡ 8 → cut_from (run_at xs 0 64) s w ≡ number_in xs s w
unfolding cut_from number_in number_of read_number
cut_is_read xs s w long = rw long (test (lies_in 8 s w) (λ y. rw y (from-same _ _ w (λ i l. same_bits xs (place s w i) (inside y i l)))) (λ f. rw f))
  where
    inside : lies_in 8 s w ≡ true → (i : ℕ) → i < w → place s w i < 64
    inside y i l = omega (arith, place_inside s w i l, lies 8 s w y)
