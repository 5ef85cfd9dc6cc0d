-- A list as rows of w words, for every width. Assumes nothing.
use Rattle.std.specs.Prelude.{List, ◌++◌, ℕ, ◌*◌, take, drop}

-- row i
unfoldable pub row_at : ℕ → List ℕ → ℕ → List ℕ
row_at w t i = take w (drop (i * w) t)

-- t with r in the place of row i: as a part of a slice comes back
unfoldable pub put_at : ℕ → List ℕ → ℕ → List ℕ → List ℕ
put_at w t i r = take (i * w) t ++ (r ++ drop w (drop (i * w) t))
