-- What C gets and keeps is read one to one: same reading, same value, so that a promise about the reading leaves no choice of what C gets.
-- Assumes nothing.
use Prim.Native.Nat.{ℕ}
use mathlib.Core.Path.{◌≡◌, refl, ap}
use mathlib.Core.Option.{Option, none, some}
use mathlib.Core.List.{List}
use native.Mathlib.Omega.{arith}
use Rattle.answers.specs.declared.Answer.{Answer}
use Rattle.answers.proofs.Cases.{same_answer}
use Rattle.message.specs.declared.Key.{Key}
use Rattle.ask.specs.Ask.{Finding, Standing}
use Rattle.bridge.specs.Bridge.{Answers, Stands}
use Rattle.hire.specs.Line.{Lined}
use Rattle.transport.specs.Rows.{Memory}
use Rattle.transport.specs.Calls.{Received}
use Rattle.firmware.specs.declared.Told.{Told}
use Rattle.firmware.specs.declared.Answered.{Answered}
use Rattle.firmware.specs.declared.Brought.{Brought}
use Rattle.firmware.specs.declared.Counted.{Counted}
use Rattle.firmware.specs.declared.Held.{Held}
use Rattle.firmware.specs.declared.Located.{Located}
use Rattle.firmware.specs.declared.Pair.{Pair}
use Rattle.firmware.specs.declared.Placed.{Placed}
use Rattle.firmware.specs.Told.{said_to, told_of, finding_to, standing_to, line_to, held_of, brought_to, answers_in, pair_to}

-- one answer in 01's numbers, one struct
pub same-told : (a b : Told) → said_to a ≡ said_to b → a ≡ b
same-told a b e = λ i. record { number = (e i).number; detail = (e i).detail; judgement = (e i).judgement; position = (e i).position }

-- one struct, one answer of the rooms below
pub same_in_c : (a b : Answer) → told_of a ≡ told_of b → a ≡ b
same_in_c a b e = same_answer a b (ap said_to e)

-- one finding, one struct
pub same-located : (a b : Located) → finding_to a ≡ finding_to b → a ≡ b
same-located a b e =
    let t = same-told a.told b.told (ap (λ (f : Finding). f.answer) e) in
    λ i. record { told = t i; position = (e i).position; start = (e i).start; width = (e i).width }

-- one parameter at a position, one struct
pub same-standing : (a b : Placed) → standing_to a ≡ standing_to b → a ≡ b
same-standing a b e =
    λ i. record { told = same-told a.told b.told (ap (λ (p : Standing). p.answer) e) i; spn = (e i).spn; start = (e i).start; width = (e i).width }

-- one line of a report, one struct
pub same_line : (a b : Counted) → line_to a ≡ line_to b → a ≡ b
same_line a b e =
    let t = same-told a.told b.told (ap (λ (l : Lined). l.answer) e) in
    λ i. record { told = t i; cell = (e i).cell; spn = (e i).spn }

-- one struct, one key or none
pub same-held : (a b : Option Key) → held_of a ≡ held_of b → a ≡ b
same-held none none e = refl
same-held none (some k) e = let z = ap (λ (h : Held). h.held) e in absurd (omega arith)
same-held (some j) none e = let z = ap (λ (h : Held). h.held) e in absurd (omega arith)
same-held (some j) (some k) e = λ i. some (record { source = (e i).source; destination = (e i).destination; k = (e i).k })

-- one answer to a packet, one struct
pub same-brought : (a b : Brought) → (m : Memory) → (out : List ℕ) → brought_to a m out ≡ brought_to b m out → a ≡ b
same-brought a b m out e =
    let t = same-told a.told b.told (ap (λ (r : Received). r.answer) e) in
    λ i. record { told = t i; pgn = (e i).pgn }

-- one answer to a frame at a port, one struct
pub same_answered : (a b : Answered) → answers_in a ≡ answers_in b → a ≡ b
same_answered a b e =
    let t = same-told a.told b.told (ap (λ (o : Answers). o.told) e) in
    let x = same-told a.first b.first (ap (λ (o : Answers). o.first) e) in
    let y = same-told a.second b.second (ap (λ (o : Answers). o.second) e) in
    let z = same-told a.third b.third (ap (λ (o : Answers). o.third) e) in
    λ i. record { told = t i; first = x i; second = y i; third = z i }

-- one count of a pair, one struct
pub same-pair : (a b : Pair) → pair_to a ≡ pair_to b → a ≡ b
same-pair a b e =
    let t = same-told a.told b.told (ap (λ (s : Stands). s.answer) e) in
    λ i. record { told = t i; counters = (e i).counters; waiting = (e i).waiting }
