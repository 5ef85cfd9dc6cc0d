-- What happens to the sessions (02, Req 14), and the session of each pair by it. Events are a list, the latest first. Nothing here knows how a session lies in
-- memory. Assumes nothing.
use Rattle.std.specs.Prelude.{ℕ, Bool, true, false, not, ◌&&◌, List, [], ◌∷◌, eqb, leb, length}
use Rattle.std.proofs.Math.Option.{Option, none, some}
use Rattle.words.specs.Rising.{insert}
use Rattle.words.specs.Runs as runs
use Rattle.session.specs.Session.{Session, opened, after}
use Rattle.session.specs.Cut.{number_of, seven_of}
use Rattle.transport.specs.Rows.{sessions}

-- a pair asks to send a payload, of this size and with this PGN; or it brings a packet, with this data
pub data Event : Type 0 where
  Asks : ℕ → ℕ → ℕ → Event
  Brings : ℕ → List ℕ → Event

-- the pair that an event names
abbrev pub subject : Event → ℕ
subject (Asks pair size pgn) = pair
subject (Brings pair d) = pair

abbrev pub names : ℕ → Event → Bool
names pair e = eqb (subject e) pair

abbrev pub is_request : Event → Bool
is_request (Asks pair size pgn) = true
is_request (Brings pair d) = false

-- what an event makes of its pair's session: "a new request to send replaces that pair's own session"
abbrev pub step : Option Session → Event → Option Session
step s (Asks pair size pgn) = some (opened size pgn)
step s (Brings pair d) = after s (number_of d) (seven_of d)

-- a pair's session is what its own events made of none, in their order (law `since_request`: those since its last request)
abbrev pub session_by : List Event → ℕ → Option Session
session_by h pair = runs.fold step none (runs.only (names pair) h)

abbrev pub is_held : Option Session → Bool
is_held none = false
is_held (some s) = true

-- the pairs that are named, each once
unfoldable pub named : List Event → List ℕ
named [] = []
named (e ∷ h) = insert (subject e) (named h)

-- those of them that have a session
abbrev pub holders : List Event → List ℕ
holders h = runs.only (λ pair. is_held (session_by h pair)) (named h)

-- 30: "all eight taken by other pairs"
unfoldable pub no_room : List Event → ℕ → Bool
no_room h pair = not (is_held (session_by h pair)) && leb sessions (length (holders h))

-- a request that is answered 30 does not count
abbrev pub counts : List Event → Event → Bool
counts h (Asks pair size pgn) = not (no_room h pair)
counts h (Brings pair d) = true

abbrev pub kept : List Event → List Event
kept h = runs.kept counts h
