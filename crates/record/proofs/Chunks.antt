-- A log in chunks that end anywhere: the laws of Sized.antt, for records of 13 bytes. Assumes nothing.
use Prim.Native.Nat.{ℕ, ◌+◌, ◌-◌, ◌%◌, ◌≤◌, ◌<◌}
use mathlib.Core.Path.{◌≡◌}
use mathlib.Core.List.{List, ◌++◌}
use native.Mathlib.Omega.{arith}
use lib.ListN.{length, take, drop}
use Rattle.record.specs.Sized.{taken_by}
use Rattle.record.specs.Cut.{left_of, over}
use Rattle.record.specs.Chunk.{left_in, carried, padded}
use Rattle.record.proofs.Sized as sized

some : 0 < 13
some = omega arith

-- the bytes that are carried make no whole record
pub left_few : (left : ℕ) → left_in left ≤ 12
left_few left = omega (arith, sized.held_few 13 some left)

-- a list that is shorter than a record comes back as it was left
pub carried_back : (l : List ℕ) → length l < 13 → carried (length l) (padded l) ≡ l
carried_back l h = sized.carried_back 13 some l h

-- with the 0 behind them there are 13 bytes
pub padded-long : (l : List ℕ) → length (padded l) ≡ 13
padded-long l = sized.padded-long 13 some l

-- a part that runs to the end
pub to_end : (l : List ℕ) (i : ℕ) → take (length l - i) (drop i l) ≡ drop i l
to_end l i = sized.to_end l i

-- what the whole records of a slice leave
pub leaving : (l : List ℕ) → (left_of l ≡ drop (length l - length l % 13) l) × (length (left_of l) ≡ length l % 13)
leaving l = sized.leaving 13 some l

module _ {S : Type 0} (step : S → List ℕ → S) where
  -- the record at place i: after it, the records from i + 13 on are left
  pub next_one : (l : List ℕ) (i : ℕ) (s u : S) → 13 ≤ length l - i → u ≡ step s (take (i + 13 - i) (drop i l)) → over step u (drop (i + 13) l) ≡ over step s (drop i l)
  next_one l i s u h e = sized.next_one 13 some step l i s u h e

  -- a slice of one record
  pub one_record : (s : S) (r : List ℕ) → length r ≡ 13 → over step s r ≡ step s r
  one_record s r e = sized.one_record 13 some step s r e

  -- the carried bytes, and a chunk behind them
  module _ (s : S) (left : ℕ) (carry chunk : List ℕ) (long : length carry ≡ 13) where
    abbrev x : List ℕ
    x = carried left carry

    abbrev k : ℕ
    k = taken_by 13 left (length chunk)

    pub still_short : left_in left + k < 13 → (over step s (x ++ chunk) ≡ s) × (left_of (x ++ chunk) ≡ x ++ chunk) × (length (x ++ chunk) ≡ left_in left + k)
    still_short h = sized.still_short 13 some step s left carry chunk long h

    pub made_whole : 13 ≤ left_in left + k
        → (over step s (x ++ chunk) ≡ over step (step s (padded (x ++ chunk))) (drop k chunk)) × (left_of (x ++ chunk) ≡ left_of (drop k chunk)) × (k ≤ length chunk)
    made_whole h = sized.made_whole 13 some step s left carry chunk long h
