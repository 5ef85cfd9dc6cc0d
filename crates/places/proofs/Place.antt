-- Laws of `place`, `end_of` and `shares_bit`: beside examples that compute, only this file opens `place`, `end_of` or `skipped`. Assumes nothing.
use mathlib.Core.Path.{◌≡◌, refl, sym, ap, ◌∙◌}
use mathlib.Core.Bool.{Bool, true, false, cond, not, ◌||◌, and-eq-true_iff}
use mathlib.Core.List.{List}
use mathlib.Core.Logic.{◌⊎◌, inl, inr, ⊎_elim}
use Prim.Native.Nat.{ℕ, zero, suc, ◌+◌, ◌-◌, ◌*◌, ◌/◌, ◌%◌, ◌≤◌, ◌<◌, max}
use native.Mathlib.Nat.{not-suc-le-zero, le_of_suc-le-suc, eq-or-lt_of_le}
use native.Mathlib.Numerals.{add-one}
use native.Mathlib.Decide.{dec_lt}
use native.Mathlib.Omega.{arith}
use borrow.Author.Tests.{eqb-false, not-true, ltb-true, lt-ltb, le-ltb}
use lib.Dec.{eqb, ltb}
use lib.ListN.{length, get_or}
use Rattle.words.specs.First.{any}
use Rattle.words.proofs.Lowest.{any_none}
use Rattle.words.proofs.Tests.{test}
use Rattle.places.specs.Place.{odd, skipped, place, end_of, meet, shares_bit, bit_place, end_in, end_to, bytes_for, size_of, Apart}
use Rattle.places.proofs.Meet.{meet_none, meet-each, meet_split, split_meet}

-- ---- what a width skips: nothing, or what fills the last byte of an odd one
pub even_skips : (w : ℕ) → odd w ≡ false → skipped w ≡ 0
unfolding skipped
even_skips w e = rw e

pub odd_skips : (w : ℕ) → odd w ≡ true → (8 < w) × (0 < w % 8) × (skipped w + w % 8 ≡ 8)
unfolding odd skipped
odd_skips w e =
    let (l, n) = (and-eq-true_iff (ltb 8 w) (not (eqb (w % 8) 0))).0 e in
    let some = eqb-false (w % 8) 0 (not-true _ n) in
    (ltb-true 8 w l, omega (arith, some), ap (λ (x : ℕ). x + w % 8) (fills e) ∙ omega arith)
  where
    fills : odd w ≡ true → skipped w ≡ 8 - w % 8
    fills o = ap (λ (b : Bool). cond b (8 - w % 8) 0) o

pub skipped-most : (w : ℕ) → skipped w ≤ 7
skipped-most w = test (odd w) (λ e. omega (arith, odd_skips w e)) (λ e. omega (arith, even_skips w e))

-- ---- the places of one parameter
place_low : (s w j : ℕ) → j < w / 8 * 8 → place s w j ≡ s + j
unfolding place
place_low s w j h = rw (lt-ltb _ _ h)

place_high : (s w j : ℕ) → w / 8 * 8 ≤ j → place s w j ≡ s + skipped w + j
unfolding place
place_high s w j h = rw (le-ltb _ _ h)

-- in which of its two runs a bit stands
place_cases : (s w j : ℕ) → ((j < w / 8 * 8) × (place s w j ≡ s + j)) ⊎ ((w / 8 * 8 ≤ j) × (place s w j ≡ s + skipped w + j))
place_cases s w j =
    elim (dec_lt j (w / 8 * 8)) [
      | yes l ↦ inl (l, place_low s w j l)
      | no l ↦ inr (omega arith, place_high s w j (omega arith))
    ]

place-one : (s w j k : ℕ) → place s w j ≡ place s w k → j ≡ k
place-one s w j k e =
    ⊎_elim (λ x. ⊎_elim (λ y. omega arith) (λ y. omega arith) (place_cases s w k))
    (λ x. ⊎_elim (λ y. omega arith) (λ y. omega arith) (place_cases s w k)) (place_cases s w j)

start_le : (s w j : ℕ) → s ≤ place s w j
start_le s w j = ⊎_elim (λ x. omega arith) (λ x. omega arith) (place_cases s w j)

pub end_runs : (s w : ℕ) → end_of s w ≡ s + skipped w + w
unfolding end_of
end_runs s w = refl

place_lt : (s w j : ℕ) → j < w → place s w j < end_of s w
place_lt s w j h = rw (end_runs s w) (⊎_elim (λ x. omega arith) (λ x. omega arith) (place_cases s w j))

-- an end is not far from start + width: what sums of ends rest on
pub end_most : (s w : ℕ) → end_of s w ≤ s + w + 7
end_most s w = omega (arith, end_runs s w, skipped-most w)

-- ---- a parameter is two runs: that of its whole bytes, and that of the bits left over, of which a multiple of 8 has none

-- of how many bits the first run is, and where the second begins
abbrev pub whole : ℕ → ℕ
whole w = w / 8 * 8

abbrev pub left : ℕ → ℕ → ℕ
left s w = s + skipped w + whole w

-- what is said of all widths that are a whole and the rest of them, is said of every width
pub by_runs : (P : ℕ → ℕ → Type 0) (w : ℕ) → ((d : ℕ) → whole w + d ≡ w → P (whole w + d) d) → P w (w - whole w)
by_runs P w h = let e : whole w + (w - whole w) ≡ w = omega arith in rw e at (h (w - whole w) e)

pub left-place : (s w : ℕ) → place s w (whole w) ≡ left s w
left-place s w = place_high s w (whole w) (omega arith)

pub low_run : (s w i : ℕ) → i < whole w → place s w i ≡ s + i
low_run s w i l = place_low s w i l

pub left-run : (s w i : ℕ) → place s w (whole w + i) ≡ left s w + i
left-run s w i = omega (arith, place_high s w (whole w + i) (omega arith))

-- where nothing is skipped, the two are one
pub one-run : (s w i : ℕ) → skipped w ≡ 0 → place s w i ≡ s + i
one-run s w i e = ⊎_elim (λ x. omega arith) (λ x. omega arith) (place_cases s w i)

-- what `shares` rests on
pub run_meets : (a n s w : ℕ) → meet (λ i. a + i) n (place s w) w
    ≡ (meet (λ i. a + i) n (λ i. s + i) (whole w) || meet (λ i. a + i) n (λ i. left s w + i) (w - whole w))
run_meets a n s w =
    by_runs (λ x d. meet (λ i. a + i) n (place s w) x ≡ (meet (λ i. a + i) n (λ i. s + i) (whole w) || meet (λ i. a + i) n (λ i. left s w + i) d)) w
    (λ d e. meet_split (place s w) (λ i. s + i) (λ i. left s w + i) (whole w) d (low_run s w) (λ j l. left-run s w j) (λ i. a + i) n)

pub shares_runs : (s1 w1 s2 w2 : ℕ) → shares_bit s1 w1 s2 w2
    ≡ (meet (λ i. s1 + i) (whole w1) (place s2 w2) w2 || meet (λ i. left s1 w1 + i) (w1 - whole w1) (place s2 w2) w2)
unfolding shares_bit
shares_runs s1 w1 s2 w2 =
    by_runs (λ x d. meet (place s1 w1) x (place s2 w2) w2 ≡ (meet (λ i. s1 + i) (whole w1) (place s2 w2) w2 || meet (λ i. left s1 w1 + i) d (place s2 w2) w2)) w1
    (λ d e. split_meet (place s1 w1) (λ i. s1 + i) (λ i. left s1 w1 + i) (whole w1) d (low_run s1 w1) (λ j l. left-run s1 w1 j) (place s2 w2) w2)

-- ---- a map, whatever `place` and `end_of` are
shares_none : (s1 w1 s2 w2 : ℕ) → shares_bit s1 w1 s2 w2 ≡ false
    → (k l : ℕ) → k < w1 → l < w2 → place s1 w1 k ≡ place s2 w2 l → ⊥
unfolding shares_bit
shares_none s1 w1 s2 w2 = meet-each (place s1 w1) w1 (place s2 w2) w2

-- one that starts at or after the end of another shares no bit with it
pub shares_after : (s1 w1 s2 w2 : ℕ) → end_of s1 w1 ≤ s2 → shares_bit s1 w1 s2 w2 ≡ false
unfolding shares_bit
shares_after s1 w1 s2 w2 h =
    meet_none (place s1 w1) w1 (place s2 w2) w2 (λ k l m n e. omega (arith, place_lt s1 w1 k m, start_le s2 w2 l))

-- one that stands in the low bits that another skips shares no bit with it
pub shares_skipped : (s1 w1 s2 w2 : ℕ) → s1 + whole w1 ≤ s2 → end_of s2 w2 ≤ left s1 w1 → shares_bit s1 w1 s2 w2 ≡ false
unfolding shares_bit
shares_skipped s1 w1 s2 w2 h g =
    meet_none (place s1 w1) w1 (place s2 w2) w2
    (λ k l m n e. ⊎_elim (λ x. omega (arith, start_le s2 w2 l)) (λ x. omega (arith, place_lt s2 w2 l n)) (place_cases s1 w1 k))

module _ (ss ws : List ℕ) where
  pub end_more : (n : ℕ) → end_to ss ws (n + 1) ≡ max (end_to ss ws n) (end_in ss ws n)
  unfolding end_to
  end_more n = rw add-one

  pub end_le : (i n : ℕ) → i < n → end_in ss ws i ≤ end_to ss ws n
  unfolding end_to
  end_le i zero h = absurd (not-suc-le-zero h)
  end_le i (suc n) h =
      ⊎_elim (λ (e : i ≡ n). rw e (omega arith)) (λ l. omega (arith, end_le i n l)) (eq-or-lt_of_le (le_of_suc-le-suc h))

  -- "it shares a bit with an earlier one" is to be asked only where it starts below the largest end of those before it
  pub clear_after : (i : ℕ) → end_to ss ws i ≤ get_or ss i 0
      → any (λ j. shares_bit (get_or ss j 0) (get_or ws j 0) (get_or ss i 0) (get_or ws i 0)) i ≡ false
  clear_after i h = any_none _ i (λ j l. shares_after (get_or ss j 0) (get_or ws j 0) (get_or ss i 0) (get_or ws i 0) (omega (arith, end_le j i l)))

  pub end_in_lem : end_to ss ws (length ss) ≤ 8 * size_of ss ws
  unfolding size_of bytes_for
  end_in_lem = omega arith

  -- a map of which no two parameters share a bit is one that the laws of payloads hold of
  pub apart : ((i j : ℕ) → i < j → j < length ss → shares_bit (get_or ss i 0) (get_or ws i 0) (get_or ss j 0) (get_or ws j 0) ≡ false) → Apart ss ws
  apart h = record { once = once; inside = inside }
    where
      inside : (i k : ℕ) → i < length ss → k < get_or ws i 0 → bit_place ss ws i k < 8 * size_of ss ws
      inside i k l m = omega (arith, place_lt (get_or ss i 0) (get_or ws i 0) k m, end_le i (length ss) l, end_in_lem)

      unlike : (i j k l : ℕ) → i < j → j < length ss → k < get_or ws i 0 → l < get_or ws j 0 → bit_place ss ws i k ≡ bit_place ss ws j l → ⊥
      unlike i j k l m n = shares_none (get_or ss i 0) (get_or ws i 0) (get_or ss j 0) (get_or ws j 0) (h i j m n) k l

      once : (i j k l : ℕ) → i < length ss → j < length ss → k < get_or ws i 0 → l < get_or ws j 0
          → bit_place ss ws i k ≡ bit_place ss ws j l → (i ≡ j) × (k ≡ l)
      once i j k l hi hj hk hl e =
          elim (dec_lt i j) [
            | yes m ↦ absurd (unlike i j k l m hj hk hl e)
            | no m ↦ elim (dec_lt j i) [
              | yes n ↦ absurd (unlike j i l k n hi hl hk (sym e))
              | no n ↦ same (omega arith)
            ]
          ]
        where
          same : i ≡ j → (i ≡ j) × (k ≡ l)
          same q = (q, place-one (get_or ss i 0) (get_or ws i 0) k l (e ∙ ap (λ (x : ℕ). bit_place ss ws x l) (sym q)))
