-- What a replay is written as: a header line, the six counters of each of the twelve pairs and how many of its frames wait, rising, and the counts of records last. "All numbers are
-- decimal." Assumes nothing.
use Rattle.std.specs.Prelude.{ℕ, cond, length}
use mathlib.Core.List.{List, ◌∷◌, ◌++◌, flatten}
use Rattle.answers.specs.Answers.{Outcome, outcome, plain, done}
use Rattle.splice.specs.Splice.{fits, splice}
use Rattle.text.specs.Text.{spelt, decimal_then}
use Rattle.record.specs.Sized.{held_by}
use Rattle.counters.specs.declared.Counters.{Counters}
use Rattle.bridge.specs.Bridge.{Bridge, Stands, standing}
use Rattle.replaying.specs.declared.Counts.{Counts}
use Rattle.replaying.specs.declared.Tally.{Tally}

abbrev pub header : List ℕ
header = spelt "FROM TO ARRIVED FILTERED QUEUED SENT TURNED REFUSED WAITING\n"

-- six counters, in the order in which 02 names them, a blank behind each
abbrev pub six_of : Counters → List (List ℕ)
six_of k =
    decimal_then k.arrived " "
    ++ (decimal_then k.filtered " " ++ (decimal_then k.queued " " ++ (decimal_then k.sent " " ++ (decimal_then k.turned " " ++ decimal_then k.refused " "))))

-- the line of a pair: its ports, its counters, and how many of its frames wait
abbrev pub line_of : ℕ → ℕ → Stands → List (List ℕ)
line_of from to s = decimal_then from " " ++ (decimal_then to " " ++ (six_of s.counters ++ decimal_then s.waiting "\n"))

-- how many records there were, and of each kind
abbrev pub kinds_of : Counts → List (List ℕ)
kinds_of k =
    spelt "EVENTS "
    ∷ (decimal_then k.events " FRAMES " ++ (decimal_then k.frames " SLOTS " ++ (decimal_then k.slots " COMMANDS " ++ decimal_then k.commands " REFUSED ")))

unfoldable pub last_line : Counts → ℕ → List (List ℕ)
last_line k left = kinds_of k ++ (decimal_then k.refused " OTHER " ++ (decimal_then k.other " LEFT " ++ decimal_then left "\n"))

-- ---- the text, by what is known of each pair

module _ (look : ℕ → ℕ → Stands) where
  -- the three pairs from one port
  abbrev pub three : ℕ → ℕ → ℕ → ℕ → List (List ℕ)
  three from x y z = line_of from x (look from x) ++ (line_of from y (look from y) ++ line_of from z (look from z))

  -- all twelve, rising by from, then to
  unfoldable pub twelve : List (List ℕ)
  twelve = three 1 2 3 4 ++ (three 2 1 3 4 ++ (three 3 1 2 4 ++ three 4 1 2 3))

  unfoldable pub replay_with : Counts → ℕ → List (List ℕ)
  replay_with k left = header ∷ (twelve ++ last_line k left)

-- ---- the text that the words and a tally give

abbrev pub pair_line : Bridge → ℕ → ℕ → List (List ℕ)
pair_line b from to = line_of from to (standing b from to)

abbrev pub three_lines : Bridge → ℕ → ℕ → ℕ → ℕ → List (List ℕ)
three_lines b = three (standing b)

abbrev pub pieces_of : Bridge → Tally → List (List ℕ)
pieces_of b s = replay_with (standing b) s.counts (held_by 14 s.left)

abbrev pub page_of : Bridge → Tally → List ℕ
page_of b s = flatten (pieces_of b s)

-- the text laid into a buffer: 0 with its length; or 13, and nothing written, where the buffer is too short
unfoldable pub finished : Bridge → Tally → List ℕ → Outcome
finished b s out = cond (fits out 0 (page_of b s)) (outcome (done (length (page_of b s))) (splice out 0 (page_of b s))) (outcome (plain 13) out)
