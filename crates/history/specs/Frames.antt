-- What a frame is to a history: the event that it brings, if it brings one, and the answer that 01 gives it.
-- Assumes nothing.
use Rattle.std.specs.Prelude.{ℕ, List, [], ◌∷◌}
use Rattle.std.proofs.Math.Option.{Option, none, some}
use Rattle.message.specs.declared.Message.{Message}
use Rattle.message.specs.Message.{heard}
use Rattle.history.specs.History.{Event, Learn, answer}

-- a well-formed message is learned; a refused frame is no event
abbrev pub learns : Option Message → List Event
learns none = []
learns (some m) = Learn m ∷ []

-- 01's answer to a frame after a history: 1 to 8 from the frame alone, and 9, 10 or 0 to a well-formed message
abbrev pub heard_answer : List Event → ℕ → Option Message → ℕ
heard_answer h number none = number
heard_answer h number (some m) = answer h (Learn m)

abbrev pub frame_answer : List Event → ℕ → ℕ → List ℕ → ℕ
frame_answer h id len d = heard_answer h (heard id len d).number (heard id len d).message
