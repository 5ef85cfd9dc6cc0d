-- Rising lists of numbers: each number once, and each below the next. Assumes nothing.
use Rattle.std.specs.Prelude.{Bool, true, false, cond, ◌&&◌, ◌||◌, List, [], ◌∷◌, ℕ, eqb, ltb}

-- the number stands in the list
unfoldable pub has : ℕ → List ℕ → Bool
has i [] = false
has i (x ∷ l) = eqb x i || has i l

-- the list starts above a number
abbrev pub starts_above : ℕ → List ℕ → Bool
starts_above x [] = true
starts_above x (y ∷ l) = ltb x y

-- each number is below the next
unfoldable pub rising : List ℕ → Bool
rising [] = true
rising (x ∷ l) = starts_above x l && rising l

-- a number put before the first that is above it, unless it stands there
unfoldable pub insert : ℕ → List ℕ → List ℕ
insert x [] = x ∷ []
insert x (y ∷ l) = cond (ltb x y) (x ∷ y ∷ l) (cond (eqb x y) (y ∷ l) (y ∷ insert x l))

-- the list without a number
unfoldable pub remove : ℕ → List ℕ → List ℕ
remove x [] = []
remove x (y ∷ l) = cond (eqb x y) (remove x l) (y ∷ remove x l)

-- the numbers of two lists, each once
unfoldable pub merge : List ℕ → List ℕ → List ℕ
merge [] m = m
merge (x ∷ l) m = insert x (merge l m)
