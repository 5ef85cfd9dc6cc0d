-- Histories of frames: every message in them is one that a frame can teach. Each table that calls reach has such a history, since a call learns nothing but
-- frames. Assumes nothing.
use Rattle.std.specs.Prelude.{List, [], ◌∷◌}
use Rattle.message.specs.declared.Message.{Message}
use Rattle.history.specs.History.{Event, Learn, Forget, Edition}
use Rattle.keyrow.specs.Row.{InBytes}
use Rattle.written.specs.Written.{Teachable}

-- a frame can teach the message; a forget and an edition name a key of bytes
abbrev pub Taught : Event → Type 0
Taught (Learn m) = Teachable m
Taught (Forget k) = InBytes k
Taught (Edition k e) = InBytes k

abbrev pub AllTaught : List Event → Type 0
AllTaught [] = Unit {0}
AllTaught (e ∷ h) = Taught e × AllTaught h

abbrev pub AllTeachable : List Message → Type 0
AllTeachable [] = Unit {0}
AllTeachable (m ∷ ms) = Teachable m × AllTeachable ms

-- messages learned one after another on top of a history, the first of them first
abbrev pub learned_on : List Event → List Message → List Event
learned_on h [] = h
learned_on h (m ∷ ms) = learned_on (Learn m ∷ h) ms
