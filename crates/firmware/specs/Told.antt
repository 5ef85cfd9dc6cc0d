-- What C gets, in 01's numbers.
-- Assumes nothing.
use Rattle.std.specs.Prelude.{ℕ, List}
use Rattle.std.proofs.Math.Option.{Option, none, some}
use Rattle.answers.specs.Answers.{Said, said_of}
use Rattle.answers.specs.declared.Answer.{Answer}
use Rattle.message.specs.declared.Key.{Key}
use Rattle.firmware.specs.declared.Told.{Told}
use Rattle.ask.specs.Ask.{Finding, Standing}
use Rattle.bridge.specs.Bridge.{Answers, answers, Stands, stands}
use Rattle.firmware.specs.declared.Answered.{Answered}
use Rattle.firmware.specs.declared.Brought.{Brought}
use Rattle.firmware.specs.declared.Counted.{Counted}
use Rattle.firmware.specs.declared.Held.{Held}
use Rattle.firmware.specs.declared.Located.{Located}
use Rattle.firmware.specs.declared.Pair.{Pair}
use Rattle.firmware.specs.declared.Placed.{Placed}
use Rattle.firmware.specs.declared.Row.{Row}
use Rattle.hire.specs.Line.{Lined}
use Rattle.image.specs.Part.{Entry}
use Rattle.transport.specs.declared.Arrived.{Arrived}
use Rattle.transport.specs.Rows.{Memory}
use Rattle.transport.specs.Calls.{Received, received}

-- the version of the exported calls: one more when a caller must be built again or changed
abbrev pub version : ℕ
version = 5

-- an answer: its four fields are the four of `Said`
abbrev pub said_to : Told → Said
said_to t = record { number = t.number; detail = t.detail; judgement = t.judgement; position = t.position }

-- an answer of the rooms below, as C gets it
abbrev pub told_of : Answer → Told
told_of a = record { number = a.number; detail = a.detail; judgement = (said_of a.judgement).number; position = (said_of a.judgement).position }

-- what finding gives
abbrev pub finding_to : Located → Finding
finding_to f = record { answer = said_to f.told; position = f.position; start = f.start; width = f.width }

-- the parameter at a position
abbrev pub standing_to : Placed → Standing
standing_to p = record { answer = said_to p.told; spn = p.spn; start = p.start; width = p.width }

-- a row of an image
abbrev pub row_to : Row → Entry
row_to r = record {
  answer = said_to r.told;
  key = record { source = r.source; destination = r.destination; k = r.k };
  offset = r.offset;
  size = r.length;
  edition = r.edition;
}

-- a line of the report of a hire
abbrev pub line_to : Counted → Lined
line_to l = record { answer = said_to l.told; spn = l.spn; cell = l.cell }

-- a held key: 1 and the key, or four times 0
abbrev pub held_of : Option Key → Held
held_of (some k) = record { held = 1; source = k.source; destination = k.destination; k = k.k }
held_of none = record { held = 0; source = 0; destination = 0; k = 0 }

-- what a packet is answered, as C gets it
abbrev pub brought_of : Arrived → Brought
brought_of a = record { told = told_of a.answer; pgn = a.pgn }

-- the same with what the lent places hold afterwards
abbrev pub brought_to : Brought → Memory → List ℕ → Received
brought_to b m out = received (said_to b.told) b.pgn m out

-- what a frame at a port is answered
abbrev pub answers_in : Answered → Answers
answers_in a = answers (said_to a.told) (said_to a.first) (said_to a.second) (said_to a.third)

-- what is counted of a pair
abbrev pub pair_to : Pair → Stands
pair_to p = stands (said_to p.told) p.counters p.waiting
