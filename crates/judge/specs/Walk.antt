-- What a search finds, and the rules of one position at once, as the walk over a map asks them (01, "A set and its judgement"): only the promises of private functions cite these. Assumes nothing.
use Rattle.std.specs.Prelude.{ℕ, zero, suc, ◌%◌, ◌<◌, ◌≡◌, Bool, true, false, not, ◌&&◌, ◌||◌, List, Option, Some, None, eqb, get_or}
use Rattle.words.specs.First.{lowest}
use Rattle.places.specs.Place.{odd}
use Rattle.judge.specs.Judge.{mark, number_at, repeated, not_above, overlaps}

-- a position, or none for 0
abbrev pub found : ℕ → Option ℕ
found zero = None
found (suc p) = Some (suc p)

-- what is found among the first n by calls that answer as `says` tells: the lowest position that a test passes, whatever test these answers are of
abbrev pub Finds : (ℕ → Bool → Type 0) → ℕ → Option ℕ → Type 0
Finds says n r = (t : ℕ → Bool) → ((i : ℕ) (b : Bool) → i < n → says i b → b ≡ t i) → r ≡ found (lowest t n)

-- each parameter below an index has a width
abbrev pub Wide : List ℕ → ℕ → Type 0
Wide widths i = (j : ℕ) → j < i → 0 < number_at widths j

-- the mark of each SPN below an index is set
abbrev pub Passed : List Bool → List ℕ → ℕ → Type 0
Passed seen spns i = (j : ℕ) → j < i → get_or seen (number_at spns j % 256) false ≡ true

-- 3, 2 or 9 applies to a parameter, by its own numbers
abbrev pub broken_by : ℕ → ℕ → Bool
broken_by start width = eqb width 0 || eqb width mark || (odd width && not (eqb (start % 8) 0))

-- 5 or 6 applies at an index
abbrev pub crossing : (ℕ → ℕ) → (ℕ → ℕ) → ℕ → Bool
crossing start width i = not_above start i || overlaps start width i

-- any of the rules but 7 applies at an index that all three slices have
abbrev pub broken : List ℕ → List ℕ → List ℕ → ℕ → Bool
broken spns starts widths i =
    broken_by (number_at starts i) (number_at widths i)
    || repeated (number_at spns) i
    || crossing (number_at starts) (number_at widths) i
