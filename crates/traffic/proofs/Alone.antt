-- "Pairs into one port share its room and nothing else", and counters are exact while a trace has fewer than 2^64 events: laws of any trace. Assumes nothing.
use Prim.Native.Nat.{ℕ, suc, ◌^◌, ◌≤◌, ◌<◌}
use native.Mathlib.Nat.{mod-eq_of_lt}
use native.Mathlib.Omega.{arith}
use mathlib.Core.Path.{◌≡◌, refl, sym, ap, ◌∙◌}
use mathlib.Core.Bool.{Bool, true, false}
use mathlib.Core.List.{List, [], ◌∷◌}
use lib.Dec.{eqb, ltb}
use lib.ListN.{length}
use Rattle.words.specs.Runs.{only}
use Rattle.words.proofs.Tests.{test}
use Rattle.counters.specs.declared.Fate.{Fate}
use Rattle.counters.specs.declared.Fate.TheVariants.{Refused, Filtered, Turned, Queued, Sent}
use Rattle.queue.specs.Queue.{leaver}
use Rattle.traffic.specs.Traffic.{Verdict, Refuses, Blocks, Passes, Event, Offer, Slot, is_at, events_at, Frame, priority_of, fate_of, queue_by, leaves_from, fate_at, fates_in, is_offer, code_of, often, arrived, filtered, queued, sent, turned, refused, wrapped, counters_of}

-- ---- a pair's own frames

-- whether an event is a frame that the filter refused, or blocked
abbrev is_refused : Event → Bool
is_refused (Offer from to id Refuses) = true
is_refused (Offer from to id Blocks) = false
is_refused (Offer from to id Passes) = false
is_refused (Slot port) = false

abbrev is_blocked : Event → Bool
is_blocked (Offer from to id Refuses) = false
is_blocked (Offer from to id Blocks) = true
is_blocked (Offer from to id Passes) = false
is_blocked (Slot port) = false

-- the refused and the filtered frames of a pair are those that its own filter refused and blocked
abbrev Both : List Fate → List Event → Type 0
Both l k = (often Refused l ≡ length (only is_refused k)) × (often Filtered l ≡ length (only is_blocked k))

by_filter : (f : ℕ) (h : List Event) → Both (fates_in f h) (only (is_offer f) h)
unfolding fates_in fate_at fate_of
by_filter f [] = (refl, refl)
by_filter f (Offer from to id v ∷ h) = test (eqb from f) (λ y. rw y (own v (by_filter f h))) (λ n. rw n (by_filter f h))
  where
    own : (v : Verdict) → Both (fates_in f h) (only (is_offer f) h) → Both (fate_of v (queue_by h) ∷ fates_in f h) (Offer from to id v ∷ only (is_offer f) h)
    own Refuses (p, q) = (ap suc p, q)
    own Blocks (p, q) = (p, ap suc q)
    own Passes (p, q) = test (ltb (length (queue_by h)) 64) (λ t. rw t (p, q)) (λ t. rw t (p, q))
by_filter f (Slot port ∷ h) = test (leaves_from f (leaver priority_of (queue_by h))) (λ y. rw y (by_filter f h)) (λ n. rw n (by_filter f h))

-- the frames that a pair was offered
abbrev pub offers_of : List Event → ℕ → ℕ → List Event
offers_of h f t = only (is_offer f) (events_at h t)

-- two traces with the same offers of a pair: as many arrived, were refused and were filtered there, whatever other pairs did and whoever waits
pub pair_alone : (h g : List Event) (f t : ℕ) → offers_of h f t ≡ offers_of g f t → (arrived h f t ≡ arrived g f t) × (refused h f t ≡ refused g f t) × (filtered h f t ≡ filtered g f t)
pair_alone h g f t e = (
  ap length e,
  (by_filter f (events_at h t)).0 ∙ ap (λ (l : List Event). length (only is_refused l)) e ∙ sym (by_filter f (events_at g t)).0,
  (by_filter f (events_at h t)).1 ∙ ap (λ (l : List Event). length (only is_blocked l)) e ∙ sym (by_filter f (events_at g t)).1,
)

-- and of those that wait at the port only their number says what becomes of a frame there
pub room_alone : (v : Verdict) (l m : List Frame) → length l ≡ length m → fate_of v l ≡ fate_of v m
unfolding fate_of
room_alone Refuses l m e = refl
room_alone Blocks l m e = refl
room_alone Passes l m e = rw e

-- ---- exact counters

only_few : {A : Type 0} (p : A → Bool) (l : List A) → length (only p l) ≤ length l
only_few p [] = omega arith
only_few p (x ∷ l) = test (p x) (λ y. rw y (omega (arith, only_few p l))) (λ n. rw n (omega (arith, only_few p l)))

fates_few : (f : ℕ) (h : List Event) → length (fates_in f h) ≤ length h
unfolding fates_in fate_at
fates_few f [] = omega arith
fates_few f (Offer from to id v ∷ h) = test (eqb from f) (λ y. rw y (omega (arith, fates_few f h))) (λ n. rw n (omega (arith, fates_few f h)))
fates_few f (Slot port ∷ h) = test (leaves_from f (leaver priority_of (queue_by h))) (λ y. rw y (omega (arith, fates_few f h))) (λ n. rw n (omega (arith, fates_few f h)))

kept : (n : ℕ) → n < 2 ^ 64 → wrapped n ≡ n
kept n h = mod-eq_of_lt h

module _ (h : List Event) (few : length h < 2 ^ 64) (f t : ℕ) where
  often_few : (g : Fate) → often g (fates_in f (events_at h t)) < 2 ^ 64
  often_few g = omega (arith, only_few (λ x. eqb (code_of x) (code_of g)) (fates_in f (events_at h t)), fates_few f (events_at h t), only_few (is_at t) h, few)

  -- no counter has wrapped
  pub exact : counters_of h f t ≡ record { arrived = arrived h f t; filtered = filtered h f t; queued = queued h f t; sent = sent h f t; turned = turned h f t; refused = refused h f t }
  unfolding counters_of
  exact =
      let a = kept (arrived h f t) (omega (arith, only_few (is_offer f) (events_at h t), only_few (is_at t) h, few)) in
      let b = kept (filtered h f t) (often_few Filtered) in
      let c = kept (queued h f t) (often_few Queued) in
      let d = kept (sent h f t) (often_few Sent) in
      let e = kept (turned h f t) (often_few Turned) in
      let g = kept (refused h f t) (often_few Refused) in
      λ i. record { arrived = a i; filtered = b i; queued = c i; sent = d i; turned = e i; refused = g i }
