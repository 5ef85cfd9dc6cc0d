-- "Arrived equals filtered, sent, waiting, turned away and refused added together": laws of any trace; and what the fates of a pair make of its counters. Assumes nothing.
use Prim.Native.Nat.{ℕ, suc, ◌+◌, ◌%◌, ◌^◌}
use native.Mathlib.Omega.{arith}
use mathlib.Core.Path.{◌≡◌, refl, sym, ap, ◌∙◌}
use mathlib.Core.Bool.{true, false, cond}
use mathlib.Core.Option.{Option, none, some}
use mathlib.Core.List.{List, [], ◌∷◌, ◌++◌}
use lib.Dec.{eqb, ltb}
use lib.ListN.{length}
use Rattle.words.specs.Runs.{fold}
use Rattle.words.proofs.Tests.{test}
use Rattle.counters.specs.declared.Counters.{Counters}
use Rattle.counters.specs.declared.Fate.{Fate}
use Rattle.counters.specs.declared.Fate.TheVariants.{Refused, Filtered, Turned, Queued, Sent}
use Rattle.counters.specs.Count.{with_fate}
use Rattle.counters.specs.Words.{no_counters}
use Rattle.queue.specs.Queue.{leaver, stayers}
use Rattle.queue.proofs.Leaving.{none_stays, as_many, leaves_some}
use Rattle.traffic.specs.Traffic.{Verdict, Refuses, Blocks, Passes, Event, Offer, Slot, events_at, Frame, frame, priority_of, fate_of, with_frame, queue_after, queue_by, came_from, leaves_from, fate_at, fates_in, arrived_in, often, many_from, fates, arrived, filtered, queued, sent, turned, refused, waiting, wrapped, counters_of}
use Rattle.traffic.proofs.Order.{few}

-- ---- one fate more

-- of what arrived at a pair, what became of it, and how many wait: all that arrived is accounted for, and all that was queued was sent or waits
abbrev Sums : ℕ → List Fate → ℕ → Type 0
Sums a l w = (a ≡ often Filtered l + often Sent l + w + often Turned l + often Refused l) × (often Queued l ≡ often Sent l + w)

module _ (a w : ℕ) (l : List Fate) (s : Sums a l w) where
  one-refused : Sums (suc a) (Refused ∷ l) w
  one-refused = (omega (arith, s.0), s.1)

  one-filtered : Sums (suc a) (Filtered ∷ l) w
  one-filtered = (omega (arith, s.0), s.1)

  one-turned : Sums (suc a) (Turned ∷ l) w
  one-turned = (omega (arith, s.0), s.1)

  one-queued : (v : ℕ) → v ≡ suc w → Sums (suc a) (Queued ∷ l) v
  one-queued v e = (omega (arith, s.0, e), omega (arith, s.1, e))

  one-sent : (v : ℕ) → w ≡ suc v → Sums a (Sent ∷ l) v
  one-sent v e = (omega (arith, s.0, e), omega (arith, s.1, e))

  as_before : (v : ℕ) → v ≡ w → Sums a l v
  as_before v e = (omega (arith, s.0, e), omega (arith, s.1, e))

-- ---- one frame more in a queue

many_behind : (f : ℕ) (l : List Frame) (x : Frame) → many_from f (l ++ (x ∷ [])) ≡ many_from f l + cond (came_from f x) 1 0
many_behind f [] x = test (came_from f x) (λ y. rw y) (λ n. rw n)
many_behind f (y ∷ l) x = test (came_from f y) (λ t. rw t (omega (arith, many_behind f l x))) (λ t. rw t (many_behind f l x))

many_own : (f from id : ℕ) (l : List Frame) → eqb from f ≡ true → many_from f (l ++ (frame from id ∷ [])) ≡ suc (many_from f l)
many_own f from id l y = many_behind f l (frame from id) ∙ rw y (omega arith)

many_other : (f from id : ℕ) (l : List Frame) → eqb from f ≡ false → many_from f (l ++ (frame from id ∷ [])) ≡ many_from f l
many_other f from id l n = many_behind f l (frame from id) ∙ rw n (omega arith)

-- ---- any events of a port

nobody_waits : (l : List Frame) → leaver priority_of l ≡ none → l ≡ []
nobody_waits [] e = refl
nobody_waits (x ∷ l) e = absurd (leaves_some priority_of few x l e)

pub sums : (f : ℕ) (h : List Event) → Sums (arrived_in f h) (fates_in f h) (many_from f (queue_by h))
unfolding fates_in fate_at queue_after fate_of
sums f [] = (refl, refl)
sums f (Offer from to id v ∷ h) = test (eqb from f) (λ y. rw y (own y v (sums f h))) (λ n. rw n (other n v (sums f h)))
  where
    own : eqb from f ≡ true → (v : Verdict) → Sums (arrived_in f h) (fates_in f h) (many_from f (queue_by h))
        → Sums (suc (arrived_in f h)) (fate_of v (queue_by h) ∷ fates_in f h) (many_from f (with_frame (fate_of v (queue_by h)) (queue_by h) (frame from id)))
    own y Refuses s = one-refused (arrived_in f h) (many_from f (queue_by h)) (fates_in f h) s
    own y Blocks s = one-filtered (arrived_in f h) (many_from f (queue_by h)) (fates_in f h) s
    own y Passes s =
        test (ltb (length (queue_by h)) 64)
        (λ t. rw t (one-queued (arrived_in f h) (many_from f (queue_by h)) (fates_in f h) s (many_from f (queue_by h ++ (frame from id ∷ []))) (many_own f from id (queue_by h) y)))
        (λ t. rw t (one-turned (arrived_in f h) (many_from f (queue_by h)) (fates_in f h) s))

    other : eqb from f ≡ false → (v : Verdict) → Sums (arrived_in f h) (fates_in f h) (many_from f (queue_by h))
        → Sums (arrived_in f h) (fates_in f h) (many_from f (with_frame (fate_of v (queue_by h)) (queue_by h) (frame from id)))
    other n Refuses s = s
    other n Blocks s = s
    other n Passes s =
        test (ltb (length (queue_by h)) 64)
        (λ t. rw t (as_before (arrived_in f h) (many_from f (queue_by h)) (fates_in f h) s (many_from f (queue_by h ++ (frame from id ∷ []))) (many_other f from id (queue_by h) n)))
        (λ t. rw t s)
sums f (Slot port ∷ h) = go (leaver priority_of (queue_by h)) refl (sums f h)
  where
    go : (o : Option Frame) → leaver priority_of (queue_by h) ≡ o → Sums (arrived_in f h) (fates_in f h) (many_from f (queue_by h))
        → Sums (arrived_in f h) (cond (leaves_from f o) (Sent ∷ []) [] ++ fates_in f h) (many_from f (stayers priority_of (queue_by h)))
    go none e s = as_before (arrived_in f h) (many_from f (queue_by h)) (fates_in f h) s (many_from f (stayers priority_of (queue_by h))) (ap (many_from f) (ap (stayers priority_of) (nobody_waits (queue_by h) e) ∙ none_stays priority_of ∙ sym (nobody_waits (queue_by h) e)))
    go (some x) e s =
        test (came_from f x)
        (λ y. rw y (one-sent (arrived_in f h) (many_from f (queue_by h)) (fates_in f h) s (many_from f (stayers priority_of (queue_by h))) (rw y at (as_many priority_of few (came_from f) (queue_by h) x e))))
        (λ n. rw n (as_before (arrived_in f h) (many_from f (queue_by h)) (fates_in f h) s (many_from f (stayers priority_of (queue_by h))) (sym (rw n at (as_many priority_of few (came_from f) (queue_by h) x e)))))

-- ---- any trace

-- THE SUM: "Arrived equals filtered, sent, waiting, turned away and refused added together"
pub all_accounted : (h : List Event) (f t : ℕ) → arrived h f t ≡ filtered h f t + sent h f t + waiting h f t + turned h f t + refused h f t
all_accounted h f t = (sums f (events_at h t)).0

-- "waiting is queued less sent"
pub queued-sent-waiting : (h : List Event) (f t : ℕ) → queued h f t ≡ sent h f t + waiting h f t
queued-sent-waiting h f t = (sums f (events_at h t)).1

-- ---- what the fates make of counters

wrap_more : (n : ℕ) → (wrapped n + 1) % 2 ^ 64 ≡ wrapped (suc n)
wrap_more n = omega arith

-- how many were offered
abbrev offers : List Fate → ℕ
offers [] = 0
offers (Sent ∷ l) = offers l
offers (Refused ∷ l) = suc (offers l)
offers (Filtered ∷ l) = suc (offers l)
offers (Turned ∷ l) = suc (offers l)
offers (Queued ∷ l) = suc (offers l)

-- the numbers of some fates, as counters
abbrev tally : ℕ → List Fate → Counters
tally a l = record {
  arrived = wrapped a;
  filtered = wrapped (often Filtered l);
  queued = wrapped (often Queued l);
  sent = wrapped (often Sent l);
  turned = wrapped (often Turned l);
  refused = wrapped (often Refused l);
}

one-tally : (l : List Fate) (f : Fate) → with_fate (tally (offers l) l) f ≡ tally (offers (f ∷ l)) (f ∷ l)
unfolding with_fate
one-tally l Refused = let p = wrap_more (offers l) in let q = wrap_more (often Refused l) in λ i. record { arrived = p i; filtered = wrapped (often Filtered l); queued = wrapped (often Queued l); sent = wrapped (often Sent l); turned = wrapped (often Turned l); refused = q i }
one-tally l Filtered = let p = wrap_more (offers l) in let q = wrap_more (often Filtered l) in λ i. record { arrived = p i; filtered = q i; queued = wrapped (often Queued l); sent = wrapped (often Sent l); turned = wrapped (often Turned l); refused = wrapped (often Refused l) }
one-tally l Turned = let p = wrap_more (offers l) in let q = wrap_more (often Turned l) in λ i. record { arrived = p i; filtered = wrapped (often Filtered l); queued = wrapped (often Queued l); sent = wrapped (often Sent l); turned = q i; refused = wrapped (often Refused l) }
one-tally l Queued = let p = wrap_more (offers l) in let q = wrap_more (often Queued l) in λ i. record { arrived = p i; filtered = wrapped (often Filtered l); queued = q i; sent = wrapped (often Sent l); turned = wrapped (often Turned l); refused = wrapped (often Refused l) }
one-tally l Sent = let q = wrap_more (often Sent l) in λ i. record { arrived = wrapped (offers l); filtered = wrapped (often Filtered l); queued = wrapped (often Queued l); sent = q i; turned = wrapped (often Turned l); refused = wrapped (often Refused l) }

tallied : (l : List Fate) → fold with_fate no_counters l ≡ tally (offers l) l
tallied [] = refl
tallied (f ∷ l) = ap (λ (c : Counters). with_fate c f) (tallied l) ∙ one-tally l f

-- each offer of a pair is one fate
offers_arrive : (f : ℕ) (h : List Event) → offers (fates_in f h) ≡ arrived_in f h
unfolding fates_in fate_at fate_of
offers_arrive f [] = refl
offers_arrive f (Offer from to id v ∷ h) = test (eqb from f) (λ y. rw y (own v (offers_arrive f h))) (λ n. rw n (offers_arrive f h))
  where
    own : (v : Verdict) → offers (fates_in f h) ≡ arrived_in f h → offers (fate_of v (queue_by h) ∷ fates_in f h) ≡ suc (arrived_in f h)
    own Refuses e = ap suc e
    own Blocks e = ap suc e
    own Passes e = test (ltb (length (queue_by h)) 64) (λ y. rw y (ap suc e)) (λ n. rw n (ap suc e))
offers_arrive f (Slot port ∷ h) = test (leaves_from f (leaver priority_of (queue_by h))) (λ y. rw y (offers_arrive f h)) (λ n. rw n (offers_arrive f h))

-- the counters of a pair are what its fates make of counters that are all 0
pub counters_by : (h : List Event) (f t : ℕ) → fold with_fate no_counters (fates h f t) ≡ counters_of h f t
unfolding counters_of
counters_by h f t = tallied (fates h f t) ∙ ap (λ (a : ℕ). tally a (fates h f t)) (offers_arrive f (events_at h t))
