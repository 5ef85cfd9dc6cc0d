-- Runs of calls on a bridge and its filters, with any numbers, and what happened in them. A run is a list of calls, the latest first. Assumes nothing.
use Rattle.std.specs.Prelude.{ℕ, ◌-◌, ◌<◌, ◌^◌, ◌≡◌, true, cond, List, [], ◌∷◌, ◌++◌, eqb}
use Rattle.std.proofs.Math.Option.{Option, none, some}
use Rattle.words.specs.Runs.{fold}
use Rattle.answers.specs.Answers.{Said, plain, done}
use Rattle.pairs.specs.declared.Command.{Command}
use Rattle.ports.specs.Filters.{two_ports, pair_of, commanded, decided}
use Rattle.queue.specs.Row.{word_of, Entered, enters_at}
use Rattle.counters.specs.declared.Fate.{Fate}
use Rattle.counters.specs.declared.Fate.TheVariants.{Refused, Filtered, Turned, Queued}
use Rattle.bridge.specs.Bridge.{Bridge, fresh_bridge, is_port, first_other, second_other, third_other, Met, met, counted_as, offered, Slotted, slotted_as, slotted}
use Rattle.traffic.specs.Traffic.{Verdict, Refuses, Blocks, Passes, Event, Offer, Slot, Frame, fate_of, waits}

-- ---- calls

-- a frame with this identifier comes in at a port; a slot of a port; a command to a pair
pub data Call : Type 0 where
  Arrives : ℕ → ℕ → Call
  Leaves : ℕ → Call
  Order : ℕ → ℕ → Command → Call

-- what the caller lends: the bridge's words and those of the filters
pub record State : Type 0 where
  pub words : Bridge
  pub filters : List ℕ

abbrev pub state : Bridge → List ℕ → State
state b w = record { words = b; filters = w }

-- what the functions promise of each call
abbrev pub after_call : State → Call → State
after_call s (Arrives port id) = state (offered s.words s.filters port id).words s.filters
after_call s (Leaves port) = state (slotted s.words port 0 0).words s.filters
after_call s (Order from to c) = state s.words (commanded s.filters from to c).memory

-- from fresh counters and queues, with any filters
unfoldable pub run : List ℕ → List Call → State
run w [] = state fresh_bridge w
run w (c ∷ cs) = after_call (run w cs) c

-- ---- the filters

-- what an answer of `decide` says of a frame
unfoldable pub verdict_of : Said → Verdict
verdict_of d = cond (eqb d.number 0) (cond (eqb d.detail 0) Blocks Passes) Refuses

-- the filters after a call: frames and slots leave them
abbrev pub filters_after : List ℕ → Call → List ℕ
filters_after w (Arrives port id) = w
filters_after w (Leaves port) = w
filters_after w (Order from to c) = (commanded w from to c).memory

-- after a run
unfoldable pub filters_by : List ℕ → List Call → List ℕ
filters_by w [] = w
filters_by w (c ∷ cs) = filters_after (filters_by w cs) c

-- ---- events

abbrev pub offer_to : List ℕ → ℕ → ℕ → ℕ → Event
offer_to w id from to = Offer from to id (verdict_of (decided w from to id))

-- a frame is offered to the three other ports, rising, so the third is the latest; 15 is no event
abbrev pub heard : List ℕ → Call → List Event
heard w (Arrives port id) = cond (is_port port) (offer_to w id port (third_other port) ∷ offer_to w id port (second_other port) ∷ offer_to w id port (first_other port) ∷ []) []
heard w (Leaves port) = cond (is_port port) (Slot port ∷ []) []
heard w (Order from to c) = []

-- what happened in a run, by the filters of each moment
unfoldable pub happened : List ℕ → List Call → List Event
happened w [] = []
happened w (c ∷ cs) = heard (filters_by w cs) c ++ happened w cs

-- ---- what an event makes of the words

-- by what the filter said
unfoldable pub met_as : Verdict → Entered → List ℕ → Met
met_as Refuses e q = met Refused q
met_as Blocks e q = met Filtered q
met_as Passes e q = met (cond e.fits Queued Turned) e.words

unfoldable pub words_after : Bridge → Event → Bridge
words_after b (Offer from to id v) = (counted_as b (pair_of from to) (met_as v (enters_at b.queues (to - 1) (word_of from id)) b.queues)).words
words_after b (Slot port) = (slotted b port 0 0).words

abbrev pub words_by : List Event → Bridge
words_by h = fold words_after fresh_bridge h

-- an event as calls make them: of two different ports, with an identifier that is a number of 32 bits where the frame can be queued
abbrev pub Real : Event → Type 0
Real (Offer from to id Refuses) = two_ports from to ≡ true
Real (Offer from to id Blocks) = two_ports from to ≡ true
Real (Offer from to id Passes) = (two_ports from to ≡ true) × (id < 2 ^ 32)
Real (Slot port) = is_port port ≡ true

abbrev pub AllReal : List Event → Type 0
AllReal [] = Unit {0}
AllReal (e ∷ h) = Real e × AllReal h

-- ---- what calls come to

-- what becomes of a frame that came in at one port, at another: `answer_to` has the answers
abbrev pub becomes : List ℕ → List Event → ℕ → ℕ → ℕ → Fate
becomes w h id from to = fate_of (verdict_of (decided w from to id)) (waits h to)

-- a slot: nobody waits, or who leaves, and the two lent numbers
abbrev pub slot_said : Bridge → ℕ → ℕ → Option Frame → Slotted
slot_said b f i none = slotted_as (plain 0) b f i
slot_said b f i (some x) = slotted_as (done 1) b x.from x.id
