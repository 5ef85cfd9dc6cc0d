-- The saved image of a table (02, Req 01): "a table of contents first, one row per usable key in rising order with offset and length, then the bodies in that order without
-- gaps". Byte 0 is the form, byte 1 the number of rows, and every number of more than one byte has its least significant byte first. Form 2 (Req 10) has rows of 8 bytes, the
-- last of which is the edition; form 1, "no longer written", has rows of 7 bytes, without it. Total on any words.
-- Assumes nothing.
use Rattle.std.specs.Prelude.{ℕ, zero, suc, ◌+◌, ◌*◌, ◌/◌, ◌%◌, ◌^◌, Bool, cond, List, [], ◌∷◌, ◌++◌, eqb, ltb, length, take}
use Rattle.std.proofs.Math.Option.{Option, none, some}
use Rattle.answers.specs.Answers.{Said, Outcome, outcome, plain}
use Rattle.answers.specs.Tests.{Test, ◌when◌, tested}
use Rattle.splice.specs.Splice.{splice}
use Rattle.words.specs.Runs.{only}
use Rattle.message.specs.declared.Key.{Key}
use Rattle.message.specs.declared.Head.{Head}
use Rattle.message.specs.declared.Place.{Place}
use Rattle.maps.specs.Maps.{Map, Nothing, Conflict, Held}
use Rattle.judge.specs.Judge.{usable}
use Rattle.lookup.specs.View.{map_in, edition_in}
use Rattle.lookup.specs.Next.{held_keys}
use Rattle.open.specs.Open.{width_for}
use Rattle.written.specs.Written.{five_of}

-- ---- a body

-- the place of a position. A usable map has one at each: the first line only gives the definition a value
abbrev pub place_or : Option Place → Place
place_or none = record { spn = 0; start = 0 }
place_or (some x) = x

-- for n positions from p on the data bytes 4 to 8 of the message that says it, first-only no
unfoldable pub body_from : Head → (ℕ → Option Place) → ℕ → ℕ → List ℕ
body_from h places p zero = []
body_from h places p (suc n) = five_of h p (place_or (places p)) ++ body_from h places (suc p) n

-- the body of a map: nothing of its key, and nothing of where it lies
abbrev pub body_of : Map → List ℕ
body_of Nothing = []
body_of Conflict = []
body_of (Held h places) = body_from h places 1 h.n

-- ---- rows and bodies of a list of keys

-- "Saved images carry the edition in the contents row": 1 for 2004, 0 for 2010
abbrev pub edition_byte : ℕ → ℕ
edition_byte edition = cond (eqb edition 2004) 1 0

-- a key's row: source, destination, k, where its body begins and how long it is, and its edition
unfoldable pub full_row : Key → ℕ → ℕ → ℕ → List ℕ
full_row k edition at len = k.source ∷ k.destination ∷ k.k ∷ at % 2 ^ 8 ∷ at / 2 ^ 8 % 2 ^ 8 ∷ len % 2 ^ 8 ∷ len / 2 ^ 8 % 2 ^ 8 ∷ edition_byte edition ∷ []

-- how many of its bytes a form has
abbrev pub row_size : ℕ → ℕ
row_size form = cond (eqb form 1) 7 8

unfoldable pub row_bytes : ℕ → Key → ℕ → ℕ → ℕ → List ℕ
row_bytes form k edition at len = take (row_size form) (full_row k edition at len)

-- the first byte behind c rows
abbrev pub behind : ℕ → ℕ → ℕ
behind form c = 2 + row_size form * c

module _ (map : Key → Map) where
  unfoldable pub bodies_of : List Key → List ℕ
  bodies_of [] = []
  bodies_of (k ∷ ks) = body_of (map k) ++ bodies_of ks

module _ (form : ℕ) (edition : Key → ℕ) (map : Key → Map) where
  -- the rows of keys whose bodies begin at a byte, one behind another
  unfoldable pub rows_of : ℕ → List Key → List ℕ
  rows_of at [] = []
  rows_of at (k ∷ ks) = row_bytes form k (edition k) at (length (body_of (map k))) ++ rows_of (at + length (body_of (map k))) ks

  unfoldable pub image_from : List Key → List ℕ
  image_from ks = form ∷ length ks ∷ (rows_of (behind form (length ks)) ks ++ bodies_of map ks)

-- ---- of a table

-- "one row per usable key": the keys whose judgement is 0 by their own edition, and no other
abbrev pub is_saved : List ℕ → Key → Bool
is_saved t k = usable (width_for t k) (map_in t k)

-- "in rising order"
abbrev pub saved_keys : List ℕ → List Key
saved_keys t = only (is_saved t) (held_keys t)

-- in a form, and as it is written
unfoldable pub image_in : ℕ → List ℕ → List ℕ
image_in form t = image_from form (edition_in t) (map_in t) (saved_keys t)

abbrev pub image_of : List ℕ → List ℕ
image_of t = image_in 2 t

-- saving: "13 for too little room"
abbrev pub save_tests : List ℕ → List ℕ → List (Test Said)
save_tests t out = plain 13 when ltb (length out) (length (image_of t)) ∷ []

-- and nothing is written; else the image over the start of the buffer, and bytes past it keep what they held
unfoldable pub saved_into : List ℕ → List ℕ → Outcome
saved_into t out = tested (save_tests t out) out (outcome (plain 0) (splice out 0 (image_of t)))
