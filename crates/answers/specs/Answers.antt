-- Document 01's answers in its own numbers: what each case of the code's enum and record stands for. Every promise about an answer goes
-- through these definitions.
-- Assumes nothing.
use Rattle.std.specs.Prelude.{ℕ, List}
use Rattle.answers.specs.declared.Answer.{Answer}
use Rattle.answers.specs.declared.Judgement.{Judgement}
use Rattle.answers.specs.declared.Judgement.TheVariants.{Usable, Conflict, Missing, Unknown, Repeated, NotAbove, Uneven, Overlaps, Beyond, Transport}

-- a judgement: its number, and the position it names, 0 where it names none (01, "A set and its judgement")
pub record Judged : Type 0 where
  pub number : ℕ
  pub position : ℕ

abbrev pub at : ℕ → ℕ → Judged
at n p = record { number = n; position = p }

-- 01's list: 1 in conflict, 2 a position is missing, 3 its SPN is not in the dictionary, 4 its SPN stands at a lower position too, 5 its start is
-- not above the one before, 6 it shares a bit with an earlier one, 7 start + width above 14,280, 8 the transport flag is wrong, 0 usable;
-- 02, Req 04: 9 its start is not a multiple of 8
abbrev pub said_of : Judgement → Judged
said_of Usable = at 0 0
said_of Conflict = at 1 0
said_of (Missing p) = at 2 p
said_of (Unknown p) = at 3 p
said_of (Repeated p) = at 4 p
said_of (NotAbove p) = at 5 p
said_of (Uneven p) = at 9 p
said_of (Overlaps p) = at 6 p
said_of (Beyond p) = at 7 p
said_of Transport = at 8 0

-- "Every answer carries a number and a detail": the detail is a number, or a judgement and its position
pub record Said : Type 0 where
  pub number : ℕ
  pub detail : ℕ
  pub judgement : ℕ
  pub position : ℕ

abbrev pub in_numbers : Answer → Said
in_numbers a = record {
  number = a.number;
  detail = a.detail;
  judgement = (said_of a.judgement).number;
  position = (said_of a.judgement).position;
}

-- "The detail is 0 unless said"
abbrev pub plain : ℕ → Said
plain n = record { number = n; detail = 0; judgement = 0; position = 0 }

-- an answer whose detail is a number
abbrev pub detailed : ℕ → ℕ → Said
detailed n d = record { number = n; detail = d; judgement = 0; position = 0 }

-- answer 0 with a number as its detail
abbrev pub done : ℕ → Said
done d = detailed 0 d

-- "answer 0 of judging carries the judgement and its position as its detail"
abbrev pub judged : Judged → Said
judged j = record { number = 0; detail = 0; judgement = j.number; position = j.position }

-- "12: map not usable; detail is the judgement and its position"
abbrev pub unusable : Judged → Said
unusable j = record { number = 12; detail = 0; judgement = j.number; position = j.position }

-- what a call answers, and what the memory lent to it holds afterwards, as one value
pub record Outcome : Type 0 where
  pub answer : Said
  pub memory : List ℕ

abbrev pub outcome : Said → List ℕ → Outcome
outcome a m = record { answer = a; memory = m }
