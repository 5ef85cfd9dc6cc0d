-- What the code's masks, shifts and loops over bytes do to payload bits. Assumes nothing.
use mathlib.Core.Path.{◌≡◌, refl, sym, ap, ap₂, ◌∙◌}
use mathlib.Core.Bool.{cond}
use mathlib.Core.List.{List}
use Prim.Native.Nat.{ℕ, zero, suc, ◌+◌, ◌-◌, ◌*◌, ◌/◌, ◌%◌, ◌^◌, ◌≤◌, ◌<◌, min, max}
use native.Mathlib.Nat.{add-zero, mod-eq_of_lt, lt_of_lt_of_le}
use native.Mathlib.Decide.{ℕ_discrete, dec_lt}
use native.Mathlib.Omega.{arith}
use borrow.Author.Tests.{le-leb, lt-leb, lt-ltb, le-ltb}
use lib.Bits.{bit_and, bit_or, and_mask}
use mir.Syntax.{w64}
use Rattle.std.proofs.lemmas.Nat.Bits.{bit_at-lt, bit_at_and, bit_at_or, bit_at_not}
use lib.Dec.{eqb, ltb}
use lib.ListN.{length, get_or, set}
use lib.Pow.{pow_pos, pow_mono, ones_lt, shl_exact, shr-shr}
use lib.Seq.{get_or-set_same, get_or-set_other}
use Rattle.bits.specs.Bits.{bit, bit_at, from_bits, bit_after, run_at, masked}
use Rattle.bits.proofs.Bits.{bit-mod, bit_shr, bit_low, bit_high, bit_above, bit_ones, bit_at_lt, at-bit, from_lt, from-add, from-same, from_of, bit-from}
use Rattle.bits.proofs.After.{after-out, after-at}

-- ---- a number of 64 bits by a mask

-- below 64 the number of ones is that which was asked for
pub ones-few : (n r : ℕ) → r ≡ 2 ^ (n % 64) - 1 → n < 64 → r ≡ 2 ^ n - 1
ones-few n r e h = e ∙ ap (λ (k : ℕ). 2 ^ k - 1) (mod-eq_of_lt h)

pick : (x y m : ℕ) → x < 2 → y < 2 → m < 2 → max (min x (1 - m)) (min y m) ≡ cond (eqb m 1) y x
pick x y zero h l k = omega arith
pick x y (suc zero) h l k = omega arith
pick x y (suc (suc m)) h l k = absurd (omega arith)

pub merged : (word mask bits j : ℕ) → mask < 2 ^ 64 → j < 64
    → bit (bit_or (bit_and word (2 ^ 64 - 1 - mask)) (bit_and bits mask)) j ≡ cond (eqb (bit mask j) 1) (bit bits j) (bit word j)
unfolding bit
merged word mask bits j h l =
    rw (bit_at_or, bit_at_and word (2 ^ 64 - 1 - mask) j, bit_at_and bits mask j, bit_at_not w64 mask j h l)
    (pick _ _ _ (bit_at-lt word j) (bit_at-lt bits j) (bit_at-lt mask j))

-- what is left of a number above its byte i
pub byte_less : (x i y : ℕ) → y ≡ x / 2 ^ (8 * i) → y / 256 ≡ x / 2 ^ (8 * (i + 1))
byte_less x i y e = ap (λ (z : ℕ). z / 256) e ∙ shr-shr x (8 * i) 8 ∙ ap (λ (z : ℕ). x / 2 ^ z) (omega arith)

-- ---- bytes by a mask

module _ (k n mask bits p b : ℕ) where
  pub masked_in : 8 * k ≤ p → p < 8 * (k + n) → masked k n mask bits p b ≡ cond (eqb (bit mask (p - 8 * k)) 1) (bit bits (p - 8 * k)) b
  unfolding masked
  masked_in l h = rw (le-leb (8 * k) p l, lt-ltb p (8 * (k + n)) h)

  masked-out : (8 * k ≤ p → p < 8 * (k + n) → bit mask (p - 8 * k) ≡ 0) → masked k n mask bits p b ≡ b
  unfolding masked
  masked-out h =
      elim (dec_lt p (8 * k)) [
        | yes l ↦ rw (lt-leb (8 * k) p l)
        | no l ↦ elim (dec_lt p (8 * (k + n))) [
          | yes m ↦ rw (le-leb (8 * k) p (omega arith), lt-ltb p (8 * (k + n)) m, h (omega arith) m)
          | no m ↦ rw (le-leb (8 * k) p (omega arith), le-ltb p (8 * (k + n)) (omega arith))
        ]
      ]

pub masked_none : (k mask bits p b : ℕ) → b ≡ masked k 0 mask bits p b
masked_none k mask bits p b = sym (masked-out k 0 mask bits p b (λ l m. absurd (omega arith)))

-- a turn of `put_bytes`: byte k + i is replaced, by the lowest byte of it and what is left of the mask and of the bits
module _ (xs : List ℕ) (k i mask bits m new y : ℕ) (b : ℕ → ℕ) (inside : k + i < length xs)
    (before : (p : ℕ) → bit_at xs p ≡ masked k i mask bits p (b p)) (of_mask : m ≡ mask / 2 ^ (8 * i)) (of-bits : new ≡ bits / 2 ^ (8 * i))
    (merged : ℕ) (merging : (j : ℕ) → j < 64 → bit merged j ≡ cond (eqb (bit m j) 1) (bit new j) (bit (get_or xs (k + i) 0) j)) (low : y ≡ merged % 256) where
  pub put_turn : (p : ℕ) → bit_at (set xs (k + i) y) p ≡ masked k (i + 1) mask bits p (b p)
  unfolding bit_at masked
  put_turn p = elim (ℕ_discrete (p / 8) (k + i)) [ yes e ↦ here e | no f ↦ there f ]
    where
      here : p / 8 ≡ k + i → bit_at (set xs (k + i) y) p ≡ masked k (i + 1) mask bits p (b p)
      here e =
          let q : 8 * i + p % 8 ≡ p - 8 * k = omega arith in
          let old : bit (get_or xs (k + i) 0) (p % 8) ≡ b p = sym (at-bit xs p (k + i) (p % 8) e refl) ∙ before p ∙ masked-out k i mask bits p (b p) (λ l m. absurd (omega arith)) in
          at-bit (set xs (k + i) y) p (k + i) (p % 8) e refl
          ∙ ap (λ (x : ℕ). bit x (p % 8)) (get_or-set_same xs (k + i) y 0 inside)
          ∙ ap (λ (x : ℕ). bit x (p % 8)) low ∙ bit-mod merged 8 (p % 8) (omega arith) ∙ merging (p % 8) (omega arith)
          ∙ rw (of_mask, of-bits, bit_shr mask (8 * i) (p % 8), bit_shr bits (8 * i) (p % 8), old, q) (sym (masked_in k (i + 1) mask bits p (b p) (omega arith) (omega arith)))

      same : (p / 8 ≡ k + i → ⊥) → ltb p (8 * (k + i)) ≡ ltb p (8 * (k + (i + 1)))
      same f =
          elim (dec_lt p (8 * (k + i))) [
            | yes l ↦ rw (lt-ltb p (8 * (k + i)) l, lt-ltb p (8 * (k + (i + 1))) (omega arith))
            | no l ↦ let m : 8 * (k + (i + 1)) ≤ p = omega arith in rw (le-ltb p (8 * (k + i)) (omega arith), le-ltb p (8 * (k + (i + 1))) m)
          ]

      there : (p / 8 ≡ k + i → ⊥) → bit_at (set xs (k + i) y) p ≡ masked k (i + 1) mask bits p (b p)
      there f = ap (λ (x : ℕ). bit x (p % 8)) (get_or-set_other xs (k + i) (p / 8) y 0 f) ∙ before p ∙ rw (same f)

-- ---- a run by its mask: w ones, and the number's bits, each as far up as the run starts

up_bit : (v off i : ℕ) → bit (v * 2 ^ off) (off + i) ≡ bit v i
up_bit v off i = ap (λ (x : ℕ). bit x (off + i)) (sym (add-zero (v * 2 ^ off))) ∙ bit_high v off 0 i (pow_pos off)

up_below : (v off i : ℕ) → i < off → bit (v * 2 ^ off) i ≡ 0
up_below v off i l = ap (λ (x : ℕ). bit x i) (sym (add-zero (v * 2 ^ off))) ∙ bit_low v off 0 i (pow_pos off) l ∙ bit_above 0 i (pow_pos i)

-- the run starts off bits into byte k, which is payload bit s
pub masked-run : (k n off s w v p b : ℕ) → 8 * k + off ≡ s → off + w ≤ 8 * n
    → masked k n ((2 ^ w - 1) * 2 ^ off) (v * 2 ^ off) p b ≡ bit_after (λ i. s + i) (bit v) w p b
masked-run k n off s w v p b at room =
    elim (dec_lt p s) [
      | yes l ↦ masked-out _ _ _ _ p b (λ m h. up_below (2 ^ w - 1) off (p - 8 * k) (omega arith)) ∙ sym (after-out (λ i. s + i) (bit v) w p b (λ i m. omega arith))
      | no l ↦ elim (dec_lt p (s + w)) [ yes m ↦ in-run (p - s) (omega arith) (omega arith) | no m ↦ past (p - s) (omega arith) (omega arith) ]
    ]
  where
    in-run : (i : ℕ) → s + i ≡ p → i < w → masked k n ((2 ^ w - 1) * 2 ^ off) (v * 2 ^ off) p b ≡ bit_after (λ i. s + i) (bit v) w p b
    in-run i e l =
        let q : p - 8 * k ≡ off + i = omega arith in
        masked_in k _ _ _ p b (omega arith) (omega arith)
        ∙ rw (q, up_bit (2 ^ w - 1) off i, bit_ones w i l, up_bit v off i, ← e) (sym (after-at (λ i. s + i) (bit v) w i b l (λ j m. omega arith)))

    past : (i : ℕ) → s + i ≡ p → w ≤ i → masked k n ((2 ^ w - 1) * 2 ^ off) (v * 2 ^ off) p b ≡ bit_after (λ i. s + i) (bit v) w p b
    past i e l =
        let q : p - 8 * k ≡ off + i = omega arith in
        masked-out _ _ _ _ p b (λ m h. rw (q, up_bit (2 ^ w - 1) off i) (bit_above (2 ^ w - 1) i (lt_of_lt_of_le (ones_lt w) (pow_mono l))))
        ∙ sym (after-out (λ i. s + i) (bit v) w p b (λ j m. omega arith))

-- as the code shifts them: x is payload bit p afterwards
pub run-masked : (s w v p b n ones x : ℕ) → w ≤ 32 → v < 2 ^ 32 → n ≡ (s % 8 + w + 7) / 8 → ones ≡ 2 ^ w - 1
    → x ≡ masked (s / 8) n (ones * 2 ^ (s % 8) % 2 ^ 64) (v * 2 ^ (s % 8) % 2 ^ 64) p b → x ≡ bit_after (λ i. s + i) (bit v) w p b
run-masked s w v p b n ones x h l e f g =
    g
    ∙ rw (e, f, shl_exact {a = 2 ^ w - 1} 32 (s % 8) 64 (lt_of_lt_of_le (ones_lt w) (pow_mono h)) (omega arith), shl_exact {a = v} 32 (s % 8) 64 l (omega arith))
    (masked-run (s / 8) ((s % 8 + w + 7) / 8) (s % 8) s w v p b (omega arith) (omega arith))

-- ---- reading

-- a byte is the number of its eight bits
pub byte-run : (xs : List ℕ) (k : ℕ) → get_or xs k 0 < 256 → from_bits (λ j. bit_at xs (8 * k + j)) 8 ≡ get_or xs k 0
byte-run xs k l =
    from-same _ (bit (get_or xs k 0)) 8 (λ j m. at-bit xs (8 * k + j) k j (omega arith) (omega arith)) ∙ from_of (get_or xs k 0) 8 ∙ mod-eq_of_lt l

-- a run has no more bits than its width
pub run-most : (xs : List ℕ) (s w m : ℕ) → w ≤ m → run_at xs s w < 2 ^ m
unfolding run_at
run-most xs s w m l = lt_of_lt_of_le (from_lt _ (λ j. bit_at_lt xs _) w) (pow_mono l)

-- a turn of `get_bytes`: the byte below is put under what was read
pub get_turn : (xs : List ℕ) (k n i y : ℕ) → 0 < i → i ≤ n → get_or xs (k + (i - 1)) 0 < 256 → y ≡ run_at xs (8 * (k + i)) (8 * (n - i))
    → y * 256 + get_or xs (k + (i - 1)) 0 ≡ run_at xs (8 * (k + (i - 1))) (8 * (n - (i - 1)))
unfolding run_at
get_turn xs k n i y some l h e =
    ap₂ (λ (x z : ℕ). x * 256 + z) (e ∙ from-same _ _ (8 * (n - i)) (λ j m. ap (bit_at xs) (omega arith))) (sym (byte-run xs (k + (i - 1)) h))
    ∙ sym (from-add (λ j. bit_at xs (8 * (k + (i - 1)) + j)) 8 (8 * (n - i)))
    ∙ ap (from_bits (λ j. bit_at xs (8 * (k + (i - 1)) + j))) (omega arith)

-- a run cut out of the bytes that it lies in
run_cut : (xs : List ℕ) (s w : ℕ) → run_at xs (8 * (s / 8)) (8 * ((s % 8 + w + 7) / 8)) / 2 ^ (s % 8) % 2 ^ w ≡ run_at xs s w
unfolding run_at
run_cut xs s w =
    sym (from_of _ w)
    ∙ from-same _ _ w (λ i m. bit_shr _ (s % 8) i ∙ bit-from _ (λ j. bit_at_lt xs _) (8 * ((s % 8 + w + 7) / 8)) (s % 8 + i) (omega arith) ∙ ap (bit_at xs) (omega arith))

-- as the code cuts it
pub run_got : (xs : List ℕ) (s w n sum ones : ℕ) → w ≤ 32 → n ≡ (s % 8 + w + 7) / 8 → ones ≡ 2 ^ w - 1 → sum ≡ run_at xs (8 * (s / 8)) (8 * n)
    → (bit_and (sum / 2 ^ (s % 8)) ones ≡ run_at xs s w) × (run_at xs s w < 2 ^ 32)
run_got xs s w n sum ones h e f g = (rw (g, e, f, and_mask _ w) (run_cut xs s w), run-most xs s w 32 h)
