-- What happened to the table, the set and the edition of each key, and the answers that 01 and 02 define from it (01, "Answer numbers" and "A set and its judgement"; 02, Req 10).
-- A history is a list of events, the latest first. Nothing here knows how a table lies in memory.
-- Assumes nothing.
use Rattle.std.specs.Prelude.{ℕ, ◌≤◌, ◌≡◌, Bool, true, false, cond, not, ◌&&◌, ◌||◌, List, [], ◌∷◌, length, eqb, leb}
use Rattle.words.specs.Runs as runs
use Rattle.message.specs.declared.Key.{Key}
use Rattle.message.specs.declared.Message.{Message}
use Rattle.maps.specs.Maps.{same_key, conflict}

-- "16 keys held": so many keys have room at one time
abbrev pub most_keys : ℕ
most_keys = 16

-- a well-formed message came in, a key was forgotten, or an edition was asked for a key (02, Req 10)
pub data Event : Type 0 where
  Learn : Message → Event
  Forget : Key → Event
  Edition : Key → ℕ → Event

-- the key that an event names
abbrev pub subject : Event → Key
subject (Learn m) = m.key
subject (Forget k) = k
subject (Edition k e) = k

abbrev pub names : Key → Event → Bool
names k e = same_key (subject e) k

abbrev pub forgets : Event → Bool
forgets (Learn m) = false
forgets (Forget k) = true
forgets (Edition k e) = false

-- no event of the list names the key
abbrev pub Silent : Key → List Event → Type 0
Silent k [] = Unit {0}
Silent k (e ∷ h) = (names k e ≡ false) × Silent k h

-- the messages among the events
abbrev pub messages : List Event → List Message
messages [] = []
messages (Learn m ∷ h) = m ∷ messages h
messages (Forget k ∷ h) = messages h
messages (Edition k e ∷ h) = messages h

-- "messages naming it since its last forget": of the events that name the key those after the latest forget, and their messages
abbrev pub since : List Event → Key → List Message
since h k = messages (runs.since forgets (runs.only (names k) h))

abbrev pub is_empty : {A : Type 0} → List A → Bool
is_empty [] = true
is_empty (x ∷ xs) = false

-- the keys without k
abbrev pub without : Key → List Key → List Key
without k ks = runs.only (λ j. not (same_key k j)) ks

-- "A key is held while its set isn't empty": the keys that have messages since their last forget, each once
abbrev pub keys : List Event → List Key
keys [] = []
keys (Learn m ∷ h) = cond (is_empty (since h m.key)) (m.key ∷ keys h) (keys h)
keys (Forget k ∷ h) = without k (keys h)
keys (Edition k e ∷ h) = keys h

-- "key new and 16 keys held"
unfoldable pub no_room : List Event → Key → Bool
no_room h k = is_empty (since h k) && leb most_keys (length (keys h))

-- the two editions: "Older combines follow the 2004 paper .., newer the 2010 one"
abbrev pub is_edition : ℕ → Bool
is_edition e = eqb e 2004 || eqb e 2010

-- the answer to an event after the history h: 9, 10 or 0 to a message, 11 or 0 to a forget, "11, then 27 for another edition" or 0 to an edition
abbrev pub answer : List Event → Event → ℕ
answer h (Learn m) = cond (no_room h m.key) 9 (cond (conflict (m ∷ since h m.key)) 10 0)
answer h (Forget k) = cond (is_empty (since h k)) 11 0
answer h (Edition k e) = cond (is_empty (since h k)) 11 (cond (is_edition e) 0 27)

-- the history, "those answered 9 apart"
abbrev pub counts : List Event → Event → Bool
counts h e = not (eqb (answer h e) 9)

abbrev pub kept : List Event → List Event
kept h = runs.kept counts h

-- "A key's set is the collection of different well-formed messages naming it since its last forget, those answered 9 apart"
abbrev pub set_of : List Event → Key → List Message
set_of h k = since (kept h) k

-- "the edition last set since then": 2010 where none was set since the key's last forget. What is refused sets nothing, and a message never changes it
unfoldable pub edition_of : List Event → Key → ℕ
edition_of [] k = 2010
edition_of (Learn m ∷ h) k = edition_of h k
edition_of (Forget j ∷ h) k = cond (same_key j k) 2010 (edition_of h k)
edition_of (Edition j e ∷ h) k = cond (same_key j k && eqb (answer h (Edition j e)) 0) e (edition_of h k)

-- at no moment more than 16 keys had messages since their last forget
abbrev pub Few : List Event → Type 0
Few [] = Unit {0}
Few (e ∷ h) = (length (keys (e ∷ h)) ≤ most_keys) × Few h
