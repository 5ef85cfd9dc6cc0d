-- What `pack` and `read` answer, and what the lent buffer holds afterwards, on every input (01, "Payload bits"). This room knows no map and no judgement:
-- its refusals are its own cases, and who knows the map turns them into 01's numbers. Assumes nothing.
use Rattle.std.specs.Prelude.{Bool, Result, Ok, Err, not, ◌||◌, List, [], ◌∷◌, ◌++◌, ℕ, ◌^◌, length, get_or, drop, leb, ltb, eqb}
use Rattle.words.specs.First.{lowest}
use Rattle.answers.specs.Tests.{◌when◌, in_order}
use Rattle.places.specs.Place.{size_of, unplaced_in}
use Rattle.payload.specs.declared.Unlaid.{Unlaid}
use Rattle.payload.specs.declared.Unlaid.TheVariants.{Unplaced, Length, TooWide}
use Rattle.payload.specs.Payload.{packed, read_all}

-- what a call leaves: its answer, and the buffer that was lent to it
pub record Left : Type 0 where
  pub laying : Result ℕ Unlaid
  pub buffer : List ℕ

abbrev pub left : Result ℕ Unlaid → List ℕ → Left
left l b = record { laying = l; buffer = b }

-- 01's answer 14: "a packed number needs more than its width"
unfoldable pub needs_more : ℕ → ℕ → Bool
needs_more value width = leb (2 ^ width) value

-- "the lowest such position", or 0
unfoldable pub too_wide_in : List ℕ → List ℕ → ℕ
too_wide_in ws vs = lowest (λ i. needs_more (get_or vs i 0) (get_or ws i 0)) (length vs)

-- "Packing takes exactly n numbers in position order and a buffer of at least L bytes. Bytes past L keep what they held"; done, it carries L. The tests are
-- made in this order, and a refusal leaves the buffer as it was
unfoldable pub packing : List ℕ → List ℕ → List ℕ → List ℕ → Left
packing ss ws vs held =
    in_order (λ e. left (Err e) held)
    (Unplaced (unplaced_in ss ws) when ltb 0 (unplaced_in ss ws)
    ∷ Length when (not (eqb (length vs) (length ss)) || ltb (length held) (size_of ss ws))
    ∷ TooWide (too_wide_in ws vs) when ltb 0 (too_wide_in ws vs)
    ∷ [])
    (left (Ok (size_of ss ws)) (packed ss ws vs ++ drop (size_of ss ws) held))

-- "Reading takes a payload of exactly L bytes and room for at least n numbers; further places keep what they held"; done, it carries n. A refusal leaves the
-- room as it was
unfoldable pub reading : List ℕ → List ℕ → List ℕ → List ℕ → Left
reading ss ws payload held =
    in_order (λ e. left (Err e) held)
    (Unplaced (unplaced_in ss ws) when ltb 0 (unplaced_in ss ws)
    ∷ Length when (not (eqb (length payload) (size_of ss ws)) || ltb (length held) (length ss))
    ∷ [])
    (left (Ok (length ss)) (read_all ss ws payload ++ drop (length ss) held))
