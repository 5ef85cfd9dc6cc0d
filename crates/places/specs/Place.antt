-- Where a parameter's bits stand in a payload, and what follows of its end, of shared bits, of L, and of a parameter that has no place (01, "Payload
-- bits" and "A set and its judgement"; 02, Req 04). A map is the lists of its starts and of its widths; a missing width counts as 0. Assumes nothing.
use Rattle.std.specs.Prelude.{◌≡◌, Bool, cond, not, ◌&&◌, ◌||◌, List, ℕ, zero, suc, ◌+◌, ◌-◌, ◌*◌, ◌/◌, ◌%◌, ◌<◌, max, length, get_or, leb, ltb, eqb}
use Rattle.words.specs.First.{any, lowest}

-- 02, Req 04: "a width above 8 that isn't a multiple of 8"
unfoldable pub odd : ℕ → Bool
odd width = ltb 8 width && not (eqb (width % 8) 0)

-- 02: "its last, partial byte is filled from bit 8 downward": how many low bits of that byte an odd width skips. Other widths skip none
unfoldable pub skipped : ℕ → ℕ
skipped width = cond (odd width) (8 - width % 8) 0

-- 01: "Bit i of the parameter's number stands at payload bit start + i"; 02: the bits of an odd width's last byte stand above those it skips
unfoldable pub place : ℕ → ℕ → ℕ → ℕ
place start width i = cond (ltb i (width / 8 * 8)) (start + i) (start + skipped width + i)

-- the payload bit after the last one of a parameter: 01's start + width; 02: of an odd width "the end of that byte"
unfoldable pub end_of : ℕ → ℕ → ℕ
end_of start width = start + skipped width + width

-- whether one of f 0 .. f (m - 1) is one of g 0 .. g (n - 1)
unfoldable pub meet : (ℕ → ℕ) → ℕ → (ℕ → ℕ) → ℕ → Bool
meet f m g n = any (λ i. any (λ j. eqb (f i) (g j)) n) m

-- whether a bit of one parameter and a bit of another have one place: the "shares a bit" of 01's judgement 6
unfoldable pub shares_bit : ℕ → ℕ → ℕ → ℕ → Bool
shares_bit s1 w1 s2 w2 = meet (place s1 w1) w1 (place s2 w2) w2

-- ---- a map

-- the place of bit k of the number at index i
abbrev pub bit_place : List ℕ → List ℕ → ℕ → ℕ → ℕ
bit_place ss ws i k = place (get_or ss i 0) (get_or ws i 0) k

-- the end of the parameter at index i
abbrev pub end_in : List ℕ → List ℕ → ℕ → ℕ
end_in ss ws i = end_of (get_or ss i 0) (get_or ws i 0)

-- whether payload bit p is the place of a bit of one of the first n parameters
unfoldable pub assigned_to : List ℕ → List ℕ → ℕ → ℕ → Bool
assigned_to ss ws n p = any (λ i. any (λ k. eqb p (bit_place ss ws i k)) (get_or ws i 0)) n

-- whether payload bit p is the place of a bit of the map
abbrev pub assigned : List ℕ → List ℕ → ℕ → Bool
assigned ss ws p = assigned_to ss ws (length ss) p

-- the largest end of the first n parameters
unfoldable pub end_to : List ℕ → List ℕ → ℕ → ℕ
end_to ss ws zero = 0
end_to ss ws (suc n) = max (end_to ss ws n) (end_in ss ws n)

-- 01's L, from the largest end: "the larger of 8 and the largest start + width divided by 8, rounded up", where the end stands for start + width
unfoldable pub bytes_for : ℕ → ℕ
bytes_for end = max 8 ((end + 7) / 8)

-- 01's L of a map
unfoldable pub size_of : List ℕ → List ℕ → ℕ
size_of ss ws = bytes_for (end_to ss ws (length ss))

-- whether the parameter at an index has no place: past the 64 positions, no width of 1 to 32, or an end above 14,280
unfoldable pub lacks_place : ℕ → ℕ → ℕ → Bool
lacks_place i start width = leb 64 i || ltb width 1 || ltb 32 width || ltb 14280 (end_of start width)

-- the lowest position without a place, or 0
unfoldable pub unplaced_in : List ℕ → List ℕ → ℕ
unplaced_in ss ws = lowest (λ i. lacks_place i (get_or ss i 0) (get_or ws i 0)) (length ss)

-- the largest end of a map, or 0 where a position has no place
unfoldable pub end_placed : List ℕ → List ℕ → ℕ
end_placed ss ws = cond (eqb (unplaced_in ss ws) 0) (end_to ss ws (length ss)) 0

-- what the laws of packing and reading ask of a map: two of its bits that have one place are the same bit, and every place lies in the L bytes
pub record Apart (ss ws : List ℕ) : Type 0 where
  pub once : (i j k l : ℕ) → i < length ss → j < length ss → k < get_or ws i 0 → l < get_or ws j 0
      → bit_place ss ws i k ≡ bit_place ss ws j l → (i ≡ j) × (k ≡ l)
  pub inside : (i k : ℕ) → i < length ss → k < get_or ws i 0 → bit_place ss ws i k < 8 * size_of ss ws
