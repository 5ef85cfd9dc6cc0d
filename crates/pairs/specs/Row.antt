-- Where the pairs stand in the words that the caller lends: 12 rows of 34 words, a row for each pair. A row's words: 0 the mode, 1 how many
-- PGNs are listed, 2 + k the PGN at place k. Total on any words: any mode but 0 is mode 1, a count above 32 is 32. Assumes nothing.
use Rattle.std.specs.Prelude.{◌≡◌, Bool, ◌&&◌, cond, List, ℕ, ◌+◌, ◌-◌, ◌/◌, ◌<◌, ◌≢◌, Option, MatchOption, eqb, ltb, length, get_or, set}
use Rattle.words.specs.First.{first}
use Rattle.words.specs.Rows.{row_at, put_at}
use Rattle.pairs.specs.declared.Command.{Command}
use Rattle.pairs.specs.declared.Command.TheVariants.{Add, Delete, Renew}
use Rattle.pairs.specs.Pairs.{room, Pair, pair_with, passes, answer_to}

-- ---- a row

abbrev pub mode_in : List ℕ → ℕ
mode_in r = cond (eqb (get_or r 0 0) 0) 0 1

unfoldable pub count_in : List ℕ → ℕ
count_in r = cond (ltb room (get_or r 1 0)) room (get_or r 1 0)

-- the lowest place at which the PGN stands, or the count
unfoldable pub entry_in : List ℕ → ℕ → ℕ
entry_in r g = first (λ k. eqb (get_or r (2 + k) 0) g) (count_in r)

abbrev pub listed_in : List ℕ → ℕ → Bool
listed_in r g = ltb (entry_in r g) (count_in r)

-- what a search for the place found: the lowest, or that there is none
abbrev pub IsPlace : List ℕ → ℕ → Option ℕ → Type 0
IsPlace r g o =
    MatchOption o ((j : ℕ) → j < count_in r → get_or r (2 + j) 0 ≢ g) (λ k. (k < count_in r) × (get_or r (2 + k) 0 ≡ g) × ((j : ℕ) → j < k → get_or r (2 + j) 0 ≢ g))

-- the pair that a row's words mean
abbrev pub pair_in : List ℕ → Pair
pair_in r = pair_with (mode_in r) (listed_in r) (count_in r)

-- a row with another PGN at place k and another count
abbrev pub edited : List ℕ → ℕ → ℕ → ℕ → List ℕ
edited r k g n = set (set r (2 + k) g) 1 n

-- the row after a command that is answered 0: a PGN is added behind the last, and the last takes the place of a deleted one
unfoldable pub rewritten : List ℕ → Command → List ℕ
rewritten r (Add g) = cond (listed_in r g) r (edited r (count_in r) g (count_in r + 1))
rewritten r (Delete g) = edited r (entry_in r g) (get_or r (1 + count_in r) 0) (count_in r - 1)
rewritten r (Renew m) = set (set r 0 m) 1 0

-- a refusal leaves the row
unfoldable pub row_after : List ℕ → Command → List ℕ
row_after r c = cond (eqb (answer_to (pair_in r) c) 0) (rewritten r c) r

-- no PGN is listed twice
unfoldable pub ListedOnce : List ℕ → Type 0
ListedOnce r = (j k : ℕ) → j < count_in r → k < count_in r → get_or r (2 + j) 0 ≡ get_or r (2 + k) 0 → j ≡ k

-- an answer's number and the words after it
pub record Noted : Type 0 where
  pub number : ℕ
  pub row : List ℕ

abbrev pub noted : ℕ → List ℕ → Noted
noted n r = record { number = n; row = r }

abbrev pub row_obeys : List ℕ → Command → Noted
row_obeys r c = noted (answer_to (pair_in r) c) (row_after r c)

abbrev pub row_passes : List ℕ → ℕ → Bool
row_passes r g = passes (mode_in r) (listed_in r g)

-- ---- the pairs, by their numbers

abbrev pub width : ℕ
width = 34

abbrev pub pairs : ℕ
pairs = 12

-- a command to the pair with number i: the answer's number by what its row means, and that row afterwards, while all other words stay; 15 where
-- no row has that number
abbrev pub obeys_at : List ℕ → ℕ → Command → Noted
obeys_at w i c =
    cond (ltb i (length w / width)) (noted (answer_to (pair_in (row_at width w i)) c) (put_at width w i (row_after (row_at width w i) c))) (noted 15 w)

-- whether the pair with number i lets a PGN pass
abbrev pub passes_at : List ℕ → ℕ → ℕ → Bool
passes_at w i g = ltb i (length w / width) && row_passes (row_at width w i) g
