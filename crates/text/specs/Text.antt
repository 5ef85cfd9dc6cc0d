-- Text in a page, one piece after another. Assumes nothing.
use Rattle.std.specs.Prelude.{ℕ, zero, suc, ◌+◌, ◌/◌, ◌%◌, cond, List, [], ◌∷◌, ◌++◌, ltb, length}
use Prim.Native.Char.{code}
use Prim.Native.String.{String, [] as nothing, ◌∷◌ as ◌then◌}
use Rattle.answers.specs.Answers.{Outcome, outcome, plain, done}
use Rattle.splice.specs.Splice.{fits, splice}

-- ---- pieces

-- the bytes of a text, all of whose characters are ASCII
abbrev pub spelt : String → List ℕ
spelt nothing = []
spelt (c then s) = code c ∷ spelt s

-- a number in decimal, of at most `most` digits: a number below 10 is its digit (48 is the byte of '0'); any other is its tenth and its last digit
unfoldable pub decimal_to : ℕ → ℕ → List ℕ
decimal_to zero n = []
decimal_to (suc most) n = cond (ltb n 10) ((48 + n) ∷ []) (decimal_to most (n / 10) ++ (48 + n % 10) ∷ [])

-- "All numbers are decimal": 20 digits are enough for any number of 64 bits
unfoldable pub decimal_of : ℕ → List ℕ
decimal_of n = decimal_to 20 n

-- a number in decimal, and what stands behind it
abbrev pub decimal_then : ℕ → String → List (List ℕ)
decimal_then n behind = decimal_of n ∷ spelt behind ∷ []

-- ---- pages

-- a page, and where its next piece goes
pub record Page : Type 0 where
  pub at : ℕ
  pub bytes : List ℕ

abbrev pub page : ℕ → List ℕ → Page
page at bytes = record { at = at; bytes = bytes }

-- a piece laid at `at`; where there is no room, nothing is laid
unfoldable pub put : List ℕ → ℕ → List ℕ → Page
put l at x = cond (fits l at x) (page (at + length x) (splice l at x)) (page at l)

-- pieces laid one after another
unfoldable pub put_all : Page → List (List ℕ) → Page
put_all p [] = p
put_all p (x ∷ xs) = put_all (put p.bytes p.at x) xs

-- ---- handed out

-- a whole text laid over the start of a buffer: 0 with its length, modulo 2^32; or 13, and nothing written, where the buffer is too short
unfoldable pub handed : List ℕ → List ℕ → Outcome
handed out text = cond (fits out 0 text) (outcome (done (length text % 4294967296)) (splice out 0 text)) (outcome (plain 13) out)
