-- What learning and forgetting put into the table's words (lookup says how they are read).
-- Assumes nothing.
use Rattle.std.specs.Prelude.{ℕ, ◌^◌, ◌<◌, List}
use Rattle.words.specs.Rows.{put_at}
use Rattle.message.specs.declared.Message.{Message}
use Rattle.keyrow.specs.Row.{row_words}

-- the words with another row in the place of row i
abbrev pub put_row : List ℕ → ℕ → List ℕ → List ℕ
put_row t i r = put_at row_words t i r

-- a message's start has its place in a cell: every well-formed one's has
abbrev pub Storable : Message → Type 0
Storable m = m.place.start < 2 ^ 16
