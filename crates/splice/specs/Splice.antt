-- Bytes laid into a lent buffer: "bytes past what a call writes keep what they held" (01, "Answer numbers"). Assumes nothing.
use Rattle.std.specs.Prelude.{ℕ, ◌+◌, List, ◌++◌, length, take, drop, Bool, cond, leb}

-- x over l from `at` on: what is before and after stays
abbrev pub splice : List ℕ → ℕ → List ℕ → List ℕ
splice l at x = take at l ++ (x ++ drop (at + length x) l)

-- s over the start of d, as far as both reach
abbrev pub covered : List ℕ → List ℕ → List ℕ
covered d s = take (length d) s ++ drop (length s) d

-- x has room in l from `at` on
abbrev pub fits : List ℕ → ℕ → List ℕ → Bool
fits l at x = leb (at + length x) (length l)

-- x over l from `at` on where it has room; else l
abbrev pub laid : List ℕ → ℕ → List ℕ → List ℕ
laid l at x = cond (fits l at x) (splice l at x) l
