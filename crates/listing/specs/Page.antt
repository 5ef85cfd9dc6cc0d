-- The listing that the words of a table and a tally give: on any words and any tally.
-- Assumes nothing.
use Rattle.std.specs.Prelude.{ℕ, cond, length}
use mathlib.Core.List.{List, flatten}
use Rattle.answers.specs.Answers.{Outcome, outcome, plain, done}
use Rattle.splice.specs.Splice.{fits, splice}
use Rattle.record.specs.Chunk.{left_in}
use Rattle.lookup.specs.View.{map_in, edition_in}
use Rattle.lookup.specs.Next.{held_keys}
use Rattle.feeding.specs.declared.Tally.{Tally}
use Rattle.listing.specs.Lines.{listing_with}

-- the listing, in pieces
abbrev pub pieces_of : List ℕ → Tally → List (List ℕ)
pieces_of t s = listing_with (edition_in t) (map_in t) (held_keys t) s.counts (left_in s.left)

abbrev pub page_of : List ℕ → Tally → List ℕ
page_of t s = flatten (pieces_of t s)

-- the listing laid into a buffer: 0 with its length; or 13, and nothing written, where the buffer is too short
unfoldable pub finished : List ℕ → Tally → List ℕ → Outcome
finished t s out = cond (fits out 0 (page_of t s)) (outcome (done (length (page_of t s))) (splice out 0 (page_of t s))) (outcome (plain 13) out)
