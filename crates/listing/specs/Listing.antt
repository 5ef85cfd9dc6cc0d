-- The listing of a log (01, "The listing program"), from the log alone: no table, no chunk.
-- Assumes nothing.
use Rattle.std.specs.Prelude.{ℕ, Bool, cond, ◌||◌, ◌&&◌, eqb, ltb, length}
use mathlib.Core.List.{List, [], ◌∷◌, ◌++◌, flatten}
use Rattle.words.specs.Runs.{only}
use Rattle.message.specs.declared.Key.{Key}
use Rattle.message.specs.Message.{Heard, heard}
use Rattle.maps.specs.Maps.{Map, map_of}
use Rattle.history.specs.History.{Event, keys, kept, set_of, edition_of}
use Rattle.record.specs.Record.{record_in}
use Rattle.record.specs.Cut.{whole_in, left_of, over}
use Rattle.history.specs.Frames.{learns, heard_answer}
use Rattle.feeding.specs.declared.Counts.{Counts}
use Rattle.feeding.specs.Counts.{is_other, is_refused, wrapped}
use Rattle.listing.specs.Lines.{listing_with}

-- ---- what a log tells

-- what happened, and the answers, the latest first
pub record Story : Type 0 where
  pub events : List Event
  pub answers : List ℕ

abbrev pub story : List Event → List ℕ → Story
story events answers = record { events = events; answers = answers }

-- a record is a frame: its message, where it is one, is learned, and its answer is 01's
abbrev pub with_heard : Story → Heard → Story
with_heard s x = story (learns x.message ++ s.events) (heard_answer (kept s.events) x.number x.message ∷ s.answers)

unfoldable pub tell : Story → List ℕ → Story
tell s r = with_heard s (heard (record_in r).id (record_in r).len (record_in r).bytes)

-- from an empty table
unfoldable pub story_of : List ℕ → Story
story_of log = over tell (story [] []) log

-- ---- the keys

-- "rising by source, destination, k"
abbrev pub below : Key → Key → Bool
below a b =
    ltb a.source b.source
    || (eqb a.source b.source && (ltb a.destination b.destination || (eqb a.destination b.destination && ltb a.k b.k)))

-- a key put before the first that is above it
abbrev pub insert : Key → List Key → List Key
insert k [] = k ∷ []
insert k (j ∷ ks) = cond (below k j) (k ∷ (j ∷ ks)) (j ∷ insert k ks)

-- keys in rising order
unfoldable pub sorted : List Key → List Key
sorted [] = []
sorted (k ∷ ks) = insert k (sorted ks)

-- ---- the listing

-- what is known of a key: the map of its set, and its edition, which no log sets
abbrev pub known : List Event → Key → Map
known events k = map_of (set_of events k)

-- "RECORDS counts the whole records, OTHER answer 2, REFUSED answers 1 and 3 to 9": from the number of records and the answers to them
abbrev pub counts_of : ℕ → List ℕ → Counts
counts_of whole answers = record {
  records = wrapped whole;
  refused = wrapped (length (only is_refused answers));
  other = wrapped (length (only is_other answers));
}

-- what a story says of a log of so many whole records with so many bytes left: "Keys are listed rising"
abbrev pub listing_by : Story → ℕ → ℕ → List ℕ
listing_by s whole left = flatten (listing_with (edition_of (kept s.events)) (known s.events) (sorted (keys (kept s.events))) (counts_of whole s.answers) left)

-- "LEFT the bytes of a cut last record"
unfoldable pub listing_of : List ℕ → List ℕ
listing_of log = listing_by (story_of log) (whole_in log) (length (left_of log))
