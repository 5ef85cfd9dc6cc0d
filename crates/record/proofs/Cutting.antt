-- Cutting a log into records of 13 bytes: the laws of Sized.antt. Assumes nothing.
use Prim.Native.Nat.{ℕ, ◌<◌}
use mathlib.Core.Path.{◌≡◌}
use mathlib.Core.List.{List, ◌++◌}
use native.Mathlib.Omega.{arith}
use lib.ListN.{length}
use Rattle.record.specs.Cut.{left_of, over}
use Rattle.record.proofs.Sized as sized

some : 0 < 13
some = omega arith

-- a list that starts with a record
module _ (r l : List ℕ) (long : length r ≡ 13) where
  -- its record is stepped over first
  pub over-more : {S : Type 0} (step : S → List ℕ → S) (s : S) → over step s (r ++ l) ≡ over step (step s r) l
  over-more step s = sized.over-more 13 some r l long step s

-- a list that is shorter than a record
module _ (l : List ℕ) (short : length l < 13) where
  pub left-short : left_of l ≡ l
  left-short = sized.left-short 13 some l short

  pub over-short : {S : Type 0} (step : S → List ℕ → S) (s : S) → over step s l ≡ s
  over-short step s = sized.over-short 13 some l short step s

-- a log that comes in two parts: what the first leaves is put before the second
module _ {S : Type 0} (step : S → List ℕ → S) (b : List ℕ) where
  -- cutting a and then b is cutting a ++ b
  abbrev pub InTwo : S → List ℕ → Type 0
  InTwo s a = (over step s (a ++ b) ≡ over step (over step s a) (left_of a ++ b)) × (left_of (a ++ b) ≡ left_of (left_of a ++ b))

  pub in_two : (s : S) (a : List ℕ) → InTwo s a
  in_two s a = sized.in_two 13 some step b s a

-- what is left is always shorter than a record
pub left_less : (l : List ℕ) → length (left_of l) < 13
left_less l = sized.left_less 13 some l
