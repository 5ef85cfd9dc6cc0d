-- What happens at the ports of a bridge (02, Req 09), and what is counted of it: "each defined from the trace". A trace is a list of events, the latest first, and a queue is a plain
-- list, the earliest first. Nothing here knows of words. Assumes nothing.
use Rattle.std.specs.Prelude.{ℕ, ◌%◌, ◌^◌, Bool, false, cond, List, [], ◌∷◌, ◌++◌, eqb, ltb, length}
use Rattle.std.proofs.Math.Option.{Option, none, some}
use Rattle.words.specs.Runs.{only, fold}
use Rattle.frame.specs.Frame.{fields_of}
use Rattle.counters.specs.declared.Counters.{Counters}
use Rattle.counters.specs.declared.Fate.{Fate}
use Rattle.counters.specs.declared.Fate.TheVariants.{Refused, Filtered, Turned, Queued, Sent}
use Rattle.queue.specs.Queue.{most, leaver, stayers}

-- ---- events

-- what the filter of a pair says of a frame: it is refused (answer 1), blocked (0 with detail 0) or passed (0 with detail 1)
pub data Verdict : Type 0 where
  Refuses : Verdict
  Blocks : Verdict
  Passes : Verdict

-- a frame that came in at one port is offered to another, with its identifier and what the filter of the pair says; or a slot of a port comes
pub data Event : Type 0 where
  Offer : ℕ → ℕ → ℕ → Verdict → Event
  Slot : ℕ → Event

-- the port at which it happens
abbrev pub port_of : Event → ℕ
port_of (Offer from to id v) = to
port_of (Slot port) = port

abbrev pub is_at : ℕ → Event → Bool
is_at port e = eqb (port_of e) port

-- the events of a port
abbrev pub events_at : List Event → ℕ → List Event
events_at h port = only (is_at port) h

-- ---- a port's queue

-- a frame that waits: the port that it came from, and its identifier
pub record Frame : Type 0 where
  pub from : ℕ
  pub id : ℕ

abbrev pub frame : ℕ → ℕ → Frame
frame from id = record { from = from; id = id }

abbrev pub priority_of : Frame → ℕ
priority_of x = (fields_of x.id).priority

-- "1 (refused), then 26 (turned away) exactly when the filter passes the frame and 64 wait there"
unfoldable pub fate_of : Verdict → List Frame → Fate
fate_of Refuses l = Refused
fate_of Blocks l = Filtered
fate_of Passes l = cond (ltb (length l) most) Queued Turned

-- who is queued waits behind the others
abbrev pub with_frame : Fate → List Frame → Frame → List Frame
with_frame Refused l x = l
with_frame Filtered l x = l
with_frame Turned l x = l
with_frame Queued l x = l ++ (x ∷ [])
with_frame Sent l x = l

-- what an event makes of the queue of its port: in a slot the earliest of the highest priority leaves
unfoldable pub queue_after : List Frame → Event → List Frame
queue_after l (Offer from to id v) = with_frame (fate_of v l) l (frame from id)
queue_after l (Slot port) = stayers priority_of l

-- what a port's events make of an empty queue, in their order
abbrev pub queue_by : List Event → List Frame
queue_by h = fold queue_after [] h

-- the frames that wait at a port
abbrev pub waits : List Event → ℕ → List Frame
waits h port = queue_by (events_at h port)

-- ---- what became of the frames of a pair, and how many

abbrev pub came_from : ℕ → Frame → Bool
came_from from x = eqb x.from from

abbrev pub leaves_from : ℕ → Option Frame → Bool
leaves_from from none = false
leaves_from from (some x) = came_from from x

-- of one event of a port, by the queue before it: none or one of those that came from a port
unfoldable pub fate_at : ℕ → List Frame → Event → List Fate
fate_at f l (Offer from to id v) = cond (eqb from f) (fate_of v l ∷ []) []
fate_at f l (Slot port) = cond (leaves_from f (leaver priority_of l)) (Sent ∷ []) []

-- of a port's events
unfoldable pub fates_in : ℕ → List Event → List Fate
fates_in f [] = []
fates_in f (e ∷ h) = fate_at f (queue_by h) e ++ fates_in f h

-- what arrived at a port from another: whatever was offered
abbrev pub is_offer : ℕ → Event → Bool
is_offer f (Offer from to id v) = eqb from f
is_offer f (Slot port) = false

abbrev pub arrived_in : ℕ → List Event → ℕ
arrived_in f h = length (only (is_offer f) h)

-- how often a fate is among some
abbrev pub code_of : Fate → ℕ
code_of Refused = 0
code_of Filtered = 1
code_of Turned = 2
code_of Queued = 3
code_of Sent = 4

abbrev pub often : Fate → List Fate → ℕ
often f l = length (only (λ g. eqb (code_of g) (code_of f)) l)

-- how many of some frames came from a port
abbrev pub many_from : ℕ → List Frame → ℕ
many_from f l = length (only (came_from f) l)

-- the six numbers of the pair (f, t), and how many of its frames wait
abbrev pub fates : List Event → ℕ → ℕ → List Fate
fates h f t = fates_in f (events_at h t)

abbrev pub arrived : List Event → ℕ → ℕ → ℕ
arrived h f t = arrived_in f (events_at h t)

abbrev pub filtered : List Event → ℕ → ℕ → ℕ
filtered h f t = often Filtered (fates h f t)

-- "Queued counts frames that ever entered"
abbrev pub queued : List Event → ℕ → ℕ → ℕ
queued h f t = often Queued (fates h f t)

abbrev pub sent : List Event → ℕ → ℕ → ℕ
sent h f t = often Sent (fates h f t)

abbrev pub turned : List Event → ℕ → ℕ → ℕ
turned h f t = often Turned (fates h f t)

abbrev pub refused : List Event → ℕ → ℕ → ℕ
refused h f t = often Refused (fates h f t)

abbrev pub waiting : List Event → ℕ → ℕ → ℕ
waiting h f t = many_from f (waits h t)

-- as counters of 64 bits
abbrev pub wrapped : ℕ → ℕ
wrapped n = n % 2 ^ 64

unfoldable pub counters_of : List Event → ℕ → ℕ → Counters
counters_of h f t = record {
  arrived = wrapped (arrived h f t);
  filtered = wrapped (filtered h f t);
  queued = wrapped (queued h f t);
  sent = wrapped (sent h f t);
  turned = wrapped (turned h f t);
  refused = wrapped (refused h f t);
}

-- ---- the order in which frames come and leave

-- those that entered a port's queue, the earliest first
unfoldable pub entered_in : List Event → List Frame
entered_in [] = []
entered_in (Offer from to id v ∷ h) = with_frame (fate_of v (queue_by h)) (entered_in h) (frame from id)
entered_in (Slot port ∷ h) = entered_in h

abbrev pub and_then : List Frame → Option Frame → List Frame
and_then l none = l
and_then l (some x) = l ++ (x ∷ [])

-- those that left it, the earliest first
unfoldable pub left_in : List Event → List Frame
left_in [] = []
left_in (Offer from to id v ∷ h) = left_in h
left_in (Slot port ∷ h) = and_then (left_in h) (leaver priority_of (queue_by h))

-- those of one priority number, in their order
abbrev pub of_priority : ℕ → List Frame → List Frame
of_priority n l = only (λ x. eqb (priority_of x) n) l
