-- What an image stands for: messages, and the editions of its keys. Reading takes of any bytes the keys of the rows and, body after body, the five bytes of each position; a
-- body says itself how many it has. Offsets, lengths, order, gaps and ranges are not tested one by one: an image is undamaged where saving what it stands for, in its own form,
-- gives it back.
-- Assumes nothing.
use Rattle.std.specs.Prelude.{ℕ, zero, suc, ◌+◌, ◌*◌, ◌%◌, ◌^◌, Bool, true, false, cond, not, ◌&&◌, List, [], ◌∷◌, ◌++◌, eqb, get_or}
use Rattle.answers.specs.Answers.{Said, Outcome, outcome, plain}
use Rattle.answers.specs.Tests.{Test, ◌when◌, tested}
use Rattle.message.specs.declared.Key.{Key}
use Rattle.message.specs.Message.{heard}
use Rattle.history.specs.History.{Event, Edition, is_empty}
use Rattle.history.specs.Frames.{learns}
use Rattle.keyrow.specs.Row.{key_of}
use Rattle.lookup.specs.Next.{held_keys}
use Rattle.learned.specs.Events.{words_from, words_by}
use Rattle.written.specs.Written.{id_of, with_key}
use Rattle.image.specs.Write.{row_size, behind, image_in}

-- ---- the messages

-- the key of the row at byte r
abbrev pub key_at : List ℕ → ℕ → Key
key_at l r = key_of (get_or l r 0) (get_or l (r + 1) 0) (get_or l (r + 2) 0)

-- the five bytes from p on
abbrev pub five_at : List ℕ → ℕ → List ℕ
five_at l p = get_or l p 0 ∷ get_or l (p + 1) 0 ∷ get_or l (p + 2) 0 ∷ get_or l (p + 3) 0 ∷ get_or l (p + 4) 0 ∷ []

-- what the key's frame says that has these as its data bytes 4 to 8
abbrev pub heard_at : List ℕ → Key → ℕ → List Event
heard_at l key p = learns (heard (id_of key) 8 (with_key key.k (five_at l p))).message

-- what n such frames say, after what came before; the latest first
unfoldable pub body_events : List ℕ → Key → ℕ → ℕ → List Event → List Event
body_events l key p zero h = h
body_events l key p (suc n) h = body_events l key (p + 5) n (heard_at l key p ++ h)

-- the number of positions of the body at p, as the first of its messages has it
abbrev pub count_at : List ℕ → ℕ → ℕ
count_at l p = get_or l (p + 3) 0 % 2 ^ 5

-- what n rows of w bytes from r on say, whose bodies begin at p
unfoldable pub row_events : ℕ → List ℕ → ℕ → ℕ → ℕ → List Event → List Event
row_events w l r p zero h = h
row_events w l r p (suc n) h = row_events w l (r + w) (p + 5 * count_at l p) n (body_events l (key_at l r) p (count_at l p) h)

abbrev pub row_count : List ℕ → ℕ
row_count l = get_or l 1 0

-- the form by its first byte: 1, or it is read as 2 (and is damaged where that byte is not 2)
abbrev pub form_of : List ℕ → ℕ
form_of l = cond (eqb (get_or l 0 0) 1) 1 2

-- "the messages it stands for"
unfoldable pub told_by : List ℕ → List Event
told_by l = row_events (row_size (form_of l)) l 2 (behind (form_of l) (row_count l)) (row_count l) []

-- ---- the editions

-- the edition that the row at byte r gives its key
abbrev pub edition_at : List ℕ → ℕ → ℕ
edition_at l r = cond (eqb (get_or l (r + 7) 0) 1) 2004 2010

-- those of n rows from r on, after what came before; the latest first
unfoldable pub row_editions : List ℕ → ℕ → ℕ → List Event → List Event
row_editions l r zero h = h
row_editions l r (suc n) h = row_editions l (r + 8) n (Edition (key_at l r) (edition_at l r) ∷ h)

-- all that it stands for: the messages, and after them the editions ("loading sets it"); of form 1 the messages alone, so that it is "read as 2010"
unfoldable pub events_of : List ℕ → List Event
events_of l = cond (eqb (form_of l) 1) (told_by l) (row_editions l 2 (row_count l) (told_by l))

-- ---- undamaged

abbrev pub same : List ℕ → List ℕ → Bool
same [] [] = true
same [] (y ∷ m) = false
same (x ∷ l) [] = false
same (x ∷ l) (y ∷ m) = eqb x y && same l m

-- saving what it stands for gives it back: "one table has one image, and any other bytes are damaged" (laws undamaged, undamaged_old)
unfoldable pub good : List ℕ → Bool
good l = same (image_in (form_of l) (words_by (events_of l))) l

-- ---- loading

-- "21 damaged image .. 23 table not empty, in that order"
abbrev pub load_tests : List ℕ → List ℕ → List (Test Said)
load_tests t l = plain 21 when not (good l) ∷ plain 23 when not (is_empty (held_keys t)) ∷ []

-- "Loading goes into an empty table and counts there as the messages it stands for", and their editions; a refusal leaves every word
unfoldable pub loaded : List ℕ → List ℕ → Outcome
loaded t l = tested (load_tests t l) t (outcome (plain 0) (words_from t (events_of l)))
