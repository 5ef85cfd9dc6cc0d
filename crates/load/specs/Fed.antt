-- Loading frame by frame, and then edition by edition, as the code goes. Only the promises of private functions cite this.
-- Assumes nothing.
use Rattle.std.specs.Prelude.{ℕ, zero, suc, ◌+◌, ◌*◌, cond, List, eqb}
use Rattle.message.specs.declared.Key.{Key}
use Rattle.keyrow.specs.Row.{key_number}
use Rattle.table.specs.Learn.{learnt}
use Rattle.edition.specs.Edition.{edited}
use Rattle.written.specs.Written.{id_of, with_key}
use Rattle.image.specs.Write.{row_size, behind}
use Rattle.image.specs.Read.{key_at, five_at, count_at, row_count, form_of, edition_at}

-- the words after the frame of a key whose data bytes 4 to 8 stand at p
abbrev pub fed_one : List ℕ → List ℕ → Key → ℕ → List ℕ
fed_one t l key p = (learnt t (id_of key) 8 (with_key key.k (five_at l p))).memory

-- after the n frames of a body that stands at p
unfoldable pub fed_body : List ℕ → List ℕ → Key → ℕ → ℕ → List ℕ
fed_body t l key p zero = t
fed_body t l key p (suc n) = fed_body (fed_one t l key p) l key (p + 5) n

-- after the frames of n rows of w bytes from r on, whose bodies begin at p
unfoldable pub fed_rows : ℕ → List ℕ → List ℕ → ℕ → ℕ → ℕ → List ℕ
fed_rows w t l r p zero = t
fed_rows w t l r p (suc n) = fed_rows w (fed_body t l (key_at l r) p (count_at l p)) l (r + w) (p + 5 * count_at l p) n

-- after all the frames of an image
abbrev pub fed_frames : List ℕ → List ℕ → List ℕ
fed_frames t l = fed_rows (row_size (form_of l)) t l 2 (behind (form_of l) (row_count l)) (row_count l)

-- after the editions of n rows from r on
unfoldable pub fed_editions : List ℕ → List ℕ → ℕ → ℕ → List ℕ
fed_editions t l r zero = t
fed_editions t l r (suc n) = fed_editions (edited t (key_number (key_at l r)) (edition_at l r)).memory l (r + 8) n

-- after all of an image
unfoldable pub fed_all : List ℕ → List ℕ → List ℕ
fed_all t l = cond (eqb (form_of l) 1) (fed_frames t l) (fed_editions (fed_frames t l) l 2 (row_count l))
