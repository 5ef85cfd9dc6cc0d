-- Asking an image of either form (02, Req 01 and 10): for a row by its number, from 0 on, and for a key. Any bytes may be asked. "asking for a key hands back that key's body as a part of
-- the image itself, an empty part on a refusal; a plain call beside it gives the number".
-- Assumes nothing.
use Rattle.std.specs.Prelude.{ℕ, ◌+◌, ◌*◌, ◌^◌, ◌≡◌, Bool, cond, not, ◌&&◌, List, [], ◌∷◌, eqb, leb, ltb, length, get_or, take, drop}
use Rattle.std.specs.Borrow.{Bor}
use Rattle.words.specs.First.{first}
use Rattle.answers.specs.Answers.{Said, plain}
use Rattle.answers.specs.Tests.{Test, ◌when◌, in_order}
use Rattle.message.specs.declared.Key.{Key}
use Rattle.maps.specs.Maps.{same_key}
use Rattle.keyrow.specs.Row.{key_of}
use Rattle.image.specs.Write.{behind}
use Rattle.image.specs.Read.{key_at, row_count, form_of, edition_at, good}

-- ---- what a row says; row i stands at byte `row_place l i`

abbrev pub row_place : List ℕ → ℕ → ℕ
row_place l i = behind (form_of l) i

-- where its body begins, and how long it is
abbrev pub off_at : List ℕ → ℕ → ℕ
off_at l r = get_or l (r + 3) 0 + get_or l (r + 4) 0 * 2 ^ 8

abbrev pub len_at : List ℕ → ℕ → ℕ
len_at l r = get_or l (r + 5) 0 + get_or l (r + 6) 0 * 2 ^ 8

-- ---- a row by its number

-- "21 damaged image, 22 key or row not in it .. in that order"
abbrev pub row_tests : List ℕ → ℕ → List (Test Said)
row_tests l i = plain 21 when not (good l) ∷ plain 22 when leb (row_count l) i ∷ []

unfoldable pub row_asked : List ℕ → ℕ → Said
row_asked l i = in_order (λ a. a) (row_tests l i) (plain 0)

-- the image is undamaged and has the row
unfoldable pub has_row : List ℕ → ℕ → Bool
has_row l i = good l && ltb i (row_count l)

-- its key, all 0 on a refusal (no key has k 0)
unfoldable pub row_key : List ℕ → ℕ → Key
row_key l i = cond (has_row l i) (key_at l (row_place l i)) (key_of 0 0 0)

-- its edition, which is 2010 in every row of form 1; 0 on a refusal
unfoldable pub row_edition : List ℕ → ℕ → ℕ
row_edition l i = cond (has_row l i) (cond (eqb (form_of l) 1) 2010 (edition_at l (row_place l i))) 0

-- its body, and the byte of the image at which it begins; nothing, at byte 0, on a refusal
unfoldable pub row_body : List ℕ → ℕ → List ℕ
row_body l i = cond (has_row l i) (take (len_at l (row_place l i)) (drop (off_at l (row_place l i)) l)) []

unfoldable pub row_offset : List ℕ → ℕ → ℕ
row_offset l i = cond (has_row l i) (off_at l (row_place l i)) 0

-- the number of the row after it; behind the last row there is none, and the number stays
unfoldable pub row_next : List ℕ → ℕ → ℕ
row_next l i = cond (has_row l i) (i + 1) i

-- all of it in numbers, for who cannot hold a part
pub record Entry : Type 0 where
  pub answer : Said
  pub key : Key
  pub offset : ℕ
  pub size : ℕ
  pub edition : ℕ

abbrev pub row_entry : List ℕ → ℕ → Entry
row_entry l i = record { answer = row_asked l i; key = row_key l i; offset = row_offset l i; size = length (row_body l i); edition = row_edition l i }

-- ---- a row by its key

-- the lowest row that has the key; the number of rows where none has, so that no row has this number
unfoldable pub row_with : List ℕ → Key → ℕ
row_with l k = first (λ i. same_key (key_at l (row_place l i)) k) (row_count l)

-- ---- a part of a slice

-- r is the part of s itself that begins at byte `off`, and holds `bytes`
pub record PartOf (s r : Bor (List ℕ)) (off : ℕ) (bytes : List ℕ) : Type 0 where
  pub holds : r.now ≡ bytes
  pub lies : r.ref_ptr ≡ (s.ref_ptr.0, off + s.ref_ptr.1)
