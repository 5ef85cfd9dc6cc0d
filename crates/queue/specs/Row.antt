-- Where the queues stand in the words that the caller lends: 65 words for each port, first how many frames wait, then a word for each in the order in which they came.
-- Total on any words: a count above 64 is 64. Assumes nothing.
use Rattle.std.specs.Prelude.{Bool, true, false, cond, List, [], ℕ, ◌+◌, ◌*◌, ◌-◌, ◌/◌, ◌%◌, ◌^◌, eqb, ltb, length, get_or, set, take, drop, Option, is_some, unwrap_or}
use Rattle.std.proofs.Math.Seq.{paste}
use Rattle.words.specs.Rows.{row_at, put_at}
use Rattle.words.specs.Runs.{only}
use Rattle.frame.specs.Frame.{bits}
use Rattle.queue.specs.Queue.{most, place}

-- ---- a frame as a word

-- the port that it came from, and its identifier
abbrev pub word_of : ℕ → ℕ → ℕ
word_of from id = from * 2 ^ 32 + id

abbrev pub from_in : ℕ → ℕ
from_in w = bits w 32 8

abbrev pub id_in : ℕ → ℕ
id_in w = w % 2 ^ 32

-- the three priority bits of the identifier (01, "A frame")
abbrev pub priority_in : ℕ → ℕ
priority_in w = bits w 26 3

-- ---- a row

unfoldable pub count_in : List ℕ → ℕ
count_in r = cond (ltb most (get_or r 0 0)) most (get_or r 0 0)

-- the frames that wait, the earliest first
unfoldable pub waiting_in : List ℕ → List ℕ
waiting_in r = take (count_in r) (drop 1 r)

-- how many of some frames came from a port
abbrev pub how_many : ℕ → List ℕ → ℕ
how_many from l = length (only (λ w. eqb (from_in w) from) l)

-- whether a frame entered, and the words afterwards
pub record Entered : Type 0 where
  pub fits : Bool
  pub words : List ℕ

abbrev pub entered : Bool → List ℕ → Entered
entered b r = record { fits = b; words = r }

-- a frame enters behind the last, where fewer than 64 wait; else the row stays
unfoldable pub row_enters : List ℕ → ℕ → Entered
row_enters r w = cond (ltb (count_in r) most) (entered true (set (set r (1 + count_in r) w) 0 (count_in r + 1))) (entered false r)

-- the frame at place k has left: those behind it stand one place further to the front
unfoldable pub closed_up : List ℕ → ℕ → List ℕ
closed_up r k = set (paste r (k + 1) (drop (k + 2) r) (count_in r - (k + 1))) 0 (count_in r - 1)

-- what left, and the words afterwards
pub record Gone : Type 0 where
  pub any : Bool
  pub word : ℕ
  pub words : List ℕ

abbrev pub gone : Bool → ℕ → List ℕ → Gone
gone b w r = record { any = b; word = w; words = r }

abbrev pub left_with : Option ℕ → List ℕ → Gone
left_with l r = gone (is_some l) (unwrap_or l 0) r

-- the earliest of the highest priority leaves, where one waits; else the row stays
unfoldable pub row_leaves : List ℕ → Gone
row_leaves r =
    cond (eqb (count_in r) 0) (gone false 0 r)
    (gone true (get_or r (1 + place priority_in (waiting_in r)) 0) (closed_up r (place priority_in (waiting_in r))))

-- ---- the ports, by the numbers of their rows

abbrev pub width : ℕ
width = 65

-- a row's frames, none where no row has that number
unfoldable pub waiting_at : List ℕ → ℕ → List ℕ
waiting_at q i = cond (ltb i (length q / width)) (waiting_in (row_at width q i)) []

-- a frame enters row i, while all other words stay; it does not where no row has that number
unfoldable pub enters_at : List ℕ → ℕ → ℕ → Entered
enters_at q i w = cond (ltb i (length q / width)) (entered (row_enters (row_at width q i) w).fits (put_at width q i (row_enters (row_at width q i) w).words)) (entered false q)

-- one leaves row i, while all other words stay
unfoldable pub leaves_at : List ℕ → ℕ → Gone
leaves_at q i =
    cond (ltb i (length q / width))
    (gone (row_leaves (row_at width q i)).any (row_leaves (row_at width q i)).word (put_at width q i (row_leaves (row_at width q i)).words))
    (gone false 0 q)
