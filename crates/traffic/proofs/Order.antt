-- "Frames of higher priority leave first, equal ones in order of arrival", and pairs into one port share its room and nothing else: laws of any trace. Assumes nothing.
use Prim.Native.Nat.{ℕ, ◌≤◌, ◌<◌}
use native.Mathlib.Omega.{arith}
use mathlib.Core.Path.{◌≡◌, refl, sym, ap, ◌∙◌}
use mathlib.Core.Bool.{Bool}
use mathlib.Core.Option.{Option, none, some}
use mathlib.Core.List.{List, [], ◌∷◌, ◌++◌, append_assoc}
use lib.ListN.{length, get_or}
use Rattle.words.specs.Runs.{only}
use Rattle.words.proofs.Tests.{test}
use Rattle.counters.specs.declared.Fate.{Fate}
use Rattle.counters.specs.declared.Fate.TheVariants.{Refused, Filtered, Turned, Queued, Sent}
use Rattle.queue.specs.Queue.{leaver, stayers}
use Rattle.queue.proofs.Leaving.{none_stays, least-below, leaver-least, in_turn, leaves_some}
use Rattle.traffic.specs.Traffic.{Event, Offer, Slot, events_at, Frame, frame, priority_of, fate_of, with_frame, queue_after, queue_by, waits, counters_of, entered_in, and_then, left_in, of_priority}

-- a priority number is one of three bits
pub few : (x : Frame) → priority_of x < 8
few x = omega arith

only-append : {A : Type 0} (p : A → Bool) (a b : List A) → only p (a ++ b) ≡ only p a ++ only p b
only-append p [] b = refl
only-append p (x ∷ a) b = test (p x) (λ y. rw y (ap (λ (l : List _). x ∷ l) (only-append p a b))) (λ n. rw n (only-append p a b))

-- ---- the highest first

-- who leaves in a slot has a number that is not above any that waits
pub highest_first : (h : List Event) (port : ℕ) (x : Frame) → leaver priority_of (waits h port) ≡ some x → (k : ℕ) → k < length (waits h port) → priority_of x ≤ priority_of (get_or (waits h port) k x)
highest_first h port x e k l =
    omega (arith, leaver-least priority_of few (waits h port) x e, least-below priority_of (waits h port) k x l)

-- ---- equal ones in order of arrival

-- of the same number, those that left and those that wait are those that entered, in their order
pub in_order_lem : (n : ℕ) (h : List Event) → of_priority n (left_in h ++ queue_by h) ≡ of_priority n (entered_in h)
unfolding left_in entered_in queue_after
in_order_lem n [] = refl
in_order_lem n (Offer from to id v ∷ h) = go (fate_of v (queue_by h)) (in_order_lem n h)
  where
    go : (f : Fate) → of_priority n (left_in h ++ queue_by h) ≡ of_priority n (entered_in h)
        → of_priority n (left_in h ++ with_frame f (queue_by h) (frame from id)) ≡ of_priority n (with_frame f (entered_in h) (frame from id))
    go Refused ih = ih
    go Filtered ih = ih
    go Turned ih = ih
    go Sent ih = ih
    go Queued ih =
        ap (of_priority n) (sym (append_assoc (left_in h) (queue_by h) (frame from id ∷ []))) ∙ only-append _ (left_in h ++ queue_by h) (frame from id ∷ [])
        ∙ ap (λ (l : List Frame). l ++ of_priority n (frame from id ∷ [])) ih ∙ sym (only-append _ (entered_in h) (frame from id ∷ []))
in_order_lem n (Slot port ∷ h) = go (leaver priority_of (queue_by h)) refl (in_order_lem n h)
  where
    none_left : (l : List Frame) → leaver priority_of l ≡ none → l ≡ []
    none_left [] e = refl
    none_left (x ∷ l) e = absurd (leaves_some priority_of few x l e)

    go : (o : Option Frame) → leaver priority_of (queue_by h) ≡ o → of_priority n (left_in h ++ queue_by h) ≡ of_priority n (entered_in h)
        → of_priority n (and_then (left_in h) o ++ stayers priority_of (queue_by h)) ≡ of_priority n (entered_in h)
    go none e ih = ap (λ (l : List Frame). of_priority n (left_in h ++ l)) (ap (stayers priority_of) (none_left (queue_by h) e) ∙ none_stays priority_of ∙ sym (none_left (queue_by h) e)) ∙ ih
    go (some x) e ih =
        ap (of_priority n) (append_assoc (left_in h) (x ∷ []) (stayers priority_of (queue_by h)))
        ∙ only-append _ (left_in h) (x ∷ stayers priority_of (queue_by h))
        ∙ ap (λ (l : List Frame). of_priority n (left_in h) ++ l) (sym (in_turn priority_of few n (queue_by h) x e))
        ∙ sym (only-append _ (left_in h) (queue_by h)) ∙ ih

-- ---- a port's events alone

-- two traces with the same events of a port have the same frames waiting there, and the same numbers of each pair into it
pub port_alone : (h g : List Event) (f t : ℕ) → events_at h t ≡ events_at g t → (waits h t ≡ waits g t) × (counters_of h f t ≡ counters_of g f t)
unfolding counters_of
port_alone h g f t e = (ap queue_by e, rw e)
