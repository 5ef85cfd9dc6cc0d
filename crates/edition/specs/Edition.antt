-- Giving a key another edition (02, Req 10): what it makes of the words, and what it answers. On any words.
-- Assumes nothing.
use Rattle.std.specs.Prelude.{ℕ, not, List, [], ◌∷◌, ltb}
use Rattle.answers.specs.Answers.{Said, Outcome, outcome, plain}
use Rattle.answers.specs.Tests.{Test, ◌when◌, tested}
use Rattle.history.specs.History.{most_keys, is_edition}
use Rattle.keyrow.specs.View.{edited_row}
use Rattle.lookup.specs.Layout.{row_of, slot_of}
use Rattle.table.specs.Layout.{put_row}

-- "Refusals: 11, then 27 for another edition"
abbrev pub edition_tests : List ℕ → ℕ → ℕ → List (Test Said)
edition_tests t key edition = plain 11 when not (ltb (slot_of t key) most_keys) ∷ plain 27 when not (is_edition edition) ∷ []

-- "a command changes one held key's edition and nothing else of it": one bit of its row; a refusal leaves every word
unfoldable pub edited : List ℕ → ℕ → ℕ → Outcome
edited t key edition =
    tested (edition_tests t key edition) t (outcome (plain 0) (put_row t (slot_of t key) (edited_row (row_of t (slot_of t key)) edition)))
