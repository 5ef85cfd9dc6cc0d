-- What the words of a bridge say of a trace: after any events, each port's words hold the frames that wait there, and each pair's words what became of its frames. Assumes nothing.
use Prim.Native.Nat.{ℕ, ◌-◌, ◌<◌}
use native.Mathlib.Omega.{arith}
use mathlib.Core.Path.{◌≡◌, refl, sym, ap, ap₂, subst, ◌∙◌}
use mathlib.Core.Bool.{Bool, true, false, cond}
use mathlib.Core.Option
use mathlib.Core.Option.{Option, none, some, some-ne-none, none-ne-some, some-injective}
use mathlib.Core.List.{List, [], ◌∷◌, ◌++◌, map, map-append}
use borrow.Author.Tests.{eqb-true, eqb-false, eq-eqb, le-leb}
use lib.Dec.{eqb, ltb}
use lib.ListN.{length, length-map, length-replicate}
use Rattle.words.specs.Runs.{fold}
use Rattle.words.proofs.Tests.{test}
use Rattle.ports.specs.Filters.{two_ports, pair_of}
use Rattle.ports.proofs.Numbers.{two, number_fits}
use Rattle.commands.proofs.Numbers.{number_own}
use Rattle.counters.specs.declared.Counters.{Counters}
use Rattle.counters.specs.declared.Fate.{Fate}
use Rattle.counters.specs.declared.Fate.TheVariants.{Turned, Queued, Sent}
use Rattle.counters.specs.Count.{with_fate}
use Rattle.counters.specs.Words.{no_counters, counters_at, noted_at}
use Rattle.counters.proofs.Rows.{long-noted, at-noted, at_others}
use Rattle.queue.specs.Queue.{leaver, stayers}
use Rattle.queue.specs.Row.{word_of, from_in, priority_in, enters_at, Gone, leaves_at, waiting_at}
use Rattle.queue.proofs.Rows.{enter_fits, enter_long, enter_own, enter_other, leave_long, leave_own, leave_other, leave_who}
use Rattle.bridge.specs.Bridge.{Bridge, bridge, fresh_bridge, is_port, Met, slotted}
use Rattle.bridge.proofs.Calls.{port_is}
use Rattle.traffic.specs.Traffic.{Verdict, Refuses, Blocks, Passes, Event, Offer, Slot, is_at, Frame, frame, priority_of, fate_of, with_frame, queue_after, waits, fate_at, fates_in, fates}
use Rattle.traffic.specs.Runs.{met_as, words_after, words_by, Real, AllReal}
use Rattle.traffic.proofs.Frames.{word_for, from_back, word_leaves, words_stay, AllSound, sound_behind, sound_stay, sound_leaver}
use Rattle.traffic.proofs.Fresh.{fresh-counters, fresh_queue}

pub record Says (b : Bridge) (h : List Event) : Type 0 where
  pub counters-long : length b.counters ≡ 72
  pub queues-long : length b.queues ≡ 260
  pub frames : (p : ℕ) → is_port p ≡ true → waiting_at b.queues (p - 1) ≡ map word_for (waits h p)
  pub sound : (p : ℕ) → is_port p ≡ true → AllSound p (waits h p)
  pub counts : (f t : ℕ) → two_ports f t ≡ true → counters_at b.counters (pair_of f t) ≡ fold with_fate no_counters (fates h f t)

-- ---- ports and their rows

module _ (p : ℕ) (y : is_port p ≡ true) where
  pub row_below : p - 1 < 4
  row_below = omega (arith, (port_is p y).1)

  row_own : (q : ℕ) → is_port q ≡ true → (q ≡ p → ⊥) → q - 1 ≡ p - 1 → ⊥
  row_own q z ne e = ne (omega (arith, (port_is p y).0, (port_is q z).0, e))

pub port_to : (f t : ℕ) → two_ports f t ≡ true → is_port t ≡ true
unfolding is_port
port_to f t e = let b = two f t e in rw (le-leb 1 t b.to-least, le-leb t 4 b.to-most)

-- ---- one event more in a trace

module _ (e : Event) (h : List Event) where
  pub own_waits : (p : ℕ) → is_at p e ≡ true → waits (e ∷ h) p ≡ queue_after (waits h p) e
  own_waits p y = rw y

  pub other-waits : (p : ℕ) → is_at p e ≡ false → waits (e ∷ h) p ≡ waits h p
  other-waits p n = rw n

  pub own_fates : (f t : ℕ) → is_at t e ≡ true → fates (e ∷ h) f t ≡ fate_at f (waits h t) e ++ fates h f t
  unfolding fates_in
  own_fates f t y = rw y

  pub other-fates : (f t : ℕ) → is_at t e ≡ false → fates (e ∷ h) f t ≡ fates h f t
  other-fates f t n = rw n

-- ---- fresh words

fresh_says : Says fresh_bridge []
unfolding fresh_bridge fates_in
fresh_says = record {
  counters-long = length-replicate {A = ℕ} 72 0;
  queues-long = length-replicate {A = ℕ} 260 0;
  frames = λ p y. fresh_queue (p - 1) (row_below p y);
  sound = λ p y. tt;
  counts = λ f t y. fresh-counters (pair_of f t) (number_fits f t y);
}

-- ---- a frame is offered

-- what becomes of it, by the words of its port
module _ (q : List ℕ) (long : length q ≡ 260) (from to id : ℕ) (y : is_port to ≡ true) (l : List Frame) (w : waiting_at q (to - 1) ≡ map word_for l) where
  abbrev how : Verdict → Met
  how v = met_as v (enters_at q (to - 1) (word_of from id)) q

  room-is : ltb (length (waiting_at q (to - 1))) 64 ≡ ltb (length l) 64
  room-is = ap (λ (m : List ℕ). ltb (length m) 64) w ∙ ap (λ (n : ℕ). ltb n 64) (length-map l word_for)

  how_fate : (v : Verdict) → (how v).fate ≡ fate_of v l
  unfolding met_as fate_of
  how_fate Refuses = refl
  how_fate Blocks = refl
  how_fate Passes = ap (λ (t : Bool). cond t Queued Turned) (enter_fits q long (to - 1) (row_below to y) (word_of from id) ∙ room-is)

  how_long : (v : Verdict) → length (how v).queues ≡ 260
  unfolding met_as
  how_long Refuses = long
  how_long Blocks = long
  how_long Passes = enter_long q long (to - 1) (row_below to y) (word_of from id)

  how_own : (v : Verdict) → waiting_at (how v).queues (to - 1) ≡ map word_for (with_frame (fate_of v l) l (frame from id))
  unfolding met_as fate_of
  how_own Refuses = w
  how_own Blocks = w
  how_own Passes =
      enter_own q long (to - 1) (row_below to y) (word_of from id)
      ∙ rw (room-is, w) (test (ltb (length l) 64) (λ t. rw t (sym (map-append word_for l (frame from id ∷ [])))) (λ t. rw t))

  how_other : (v : Verdict) (p : ℕ) → is_port p ≡ true → (p ≡ to → ⊥) → waiting_at (how v).queues (p - 1) ≡ waiting_at q (p - 1)
  unfolding met_as
  how_other Refuses p z ne = refl
  how_other Blocks p z ne = refl
  how_other Passes p z ne = enter_other q long (to - 1) (row_below to y) (word_of from id) (p - 1) (row_below p z) (row_own to y p z ne)

-- what becomes of a frame, where the words say what waits
pub fate_by : (b : Bridge) (h : List Event) → Says b h → (from to id : ℕ) (v : Verdict) → two_ports from to ≡ true
    → (met_as v (enters_at b.queues (to - 1) (word_of from id)) b.queues).fate ≡ fate_of v (waits h to)
fate_by b h s from to id v z = let y = port_to from to z in how_fate b.queues s.queues-long from to id y (waits h to) (s.frames to y) v

-- who is queued can wait there
how_sound : (from to id : ℕ) (l : List Frame) (v : Verdict) → Real (Offer from to id v) → AllSound to l → AllSound to (with_frame (fate_of v l) l (frame from id))
unfolding fate_of
how_sound from to id l Refuses r a = a
how_sound from to id l Blocks r a = a
how_sound from to id l Passes r a =
    test (ltb (length l) 64) (λ t. rw t (sound_behind to l (frame from id) a (record { two_ports_lem = r.0; short = r.1 }))) (λ t. rw t a)

-- the ports of an offer are two
real_two : (from to id : ℕ) (v : Verdict) → Real (Offer from to id v) → two_ports from to ≡ true
real_two from to id Refuses r = r
real_two from to id Blocks r = r
real_two from to id Passes r = r.0

-- a fate that is noted at one pair leaves the counters of every other
pub noted_other : (c : List ℕ) → length c ≡ 72 → (from to : ℕ) → two_ports from to ≡ true → (g : Fate) (f t : ℕ) → two_ports f t ≡ true → ((from ≡ f) × (to ≡ t) → ⊥)
    → counters_at (noted_at c (pair_of from to) g) (pair_of f t) ≡ counters_at c (pair_of f t)
noted_other c long from to z g f t y ne =
    at_others c long (pair_of from to) (number_fits from to z) g (pair_of f t) (number_fits f t y) (λ e. ne (number_own from to f t z y (sym e)))

module _ (b : Bridge) (h : List Event) (s : Says b h) (from to id : ℕ) (v : Verdict) (r : Real (Offer from to id v)) where
  abbrev offer : Event
  offer = Offer from to id v

  z : two_ports from to ≡ true
  z = real_two from to id v r

  y : is_port to ≡ true
  y = port_to from to z

  abbrev l : List Frame
  l = waits h to

  abbrev m : Met
  m = how b.queues s.queues-long from to id y l (s.frames to y) v

  fate-is : m.fate ≡ fate_of v l
  fate-is = how_fate b.queues s.queues-long from to id y l (s.frames to y) v

  offer_frames : (p : ℕ) → is_port p ≡ true → waiting_at m.queues (p - 1) ≡ map word_for (waits (offer ∷ h) p)
  unfolding queue_after
  offer_frames p x =
      test (eqb to p)
      (λ e.
      subst (λ (k : ℕ). waiting_at m.queues (k - 1) ≡ map word_for (waits (offer ∷ h) k)) (eqb-true to p e)
      (how_own b.queues s.queues-long from to id y l (s.frames to y) v ∙ ap (map word_for) (sym (own_waits offer h to (eq-eqb to to refl)))))
      (λ n.
      how_other b.queues s.queues-long from to id y l (s.frames to y) v p x (λ e. eqb-false to p n (sym e)) ∙ s.frames p x ∙ ap (map word_for) (sym (other-waits offer h p n)))

  offer_sound : (p : ℕ) → is_port p ≡ true → AllSound p (waits (offer ∷ h) p)
  unfolding queue_after
  offer_sound p x =
      test (eqb to p)
      (λ e.
      subst (λ (k : ℕ). AllSound k (waits (offer ∷ h) k)) (eqb-true to p e)
      (subst (AllSound to) (sym (own_waits offer h to (eq-eqb to to refl))) (how_sound from to id l v r (s.sound to y))))
      (λ n. subst (AllSound p) (sym (other-waits offer h p n)) (s.sound p x))

  offer_counts : (f t : ℕ) → two_ports f t ≡ true → counters_at (noted_at b.counters (pair_of from to) m.fate) (pair_of f t) ≡ fold with_fate no_counters (fates (offer ∷ h) f t)
  unfolding fate_at
  offer_counts f t x =
      test (eqb to t)
      (λ e. rw (own_fates offer h f t e)
      (test (eqb from f)
      (λ g. rw g (own f t x (eqb-true from f g) (eqb-true to t e)))
      (λ g. rw g (noted_other b.counters s.counters-long from to z m.fate f t x (λ k. eqb-false from f g k.0) ∙ s.counts f t x))))
      (λ n. rw (other-fates offer h f t n) (noted_other b.counters s.counters-long from to z m.fate f t x (λ k. eqb-false to t n k.1) ∙ s.counts f t x))
    where
      own : (f t : ℕ) → two_ports f t ≡ true → from ≡ f → to ≡ t
          → counters_at (noted_at b.counters (pair_of from to) m.fate) (pair_of f t) ≡ with_fate (fold with_fate no_counters (fates h f t)) (fate_of v (waits h t))
      own f t x p q =
          rw (← p, ← q) (at-noted b.counters s.counters-long (pair_of from to) (number_fits from to z) m.fate ∙ ap₂ with_fate (s.counts from to z) fate-is)

  offer_says : Says (words_after b offer) (offer ∷ h)
  unfolding words_after
  offer_says = record {
    counters-long = long-noted b.counters s.counters-long (pair_of from to) (number_fits from to z) m.fate;
    queues-long = how_long b.queues s.queues-long from to id y l (s.frames to y) v;
    frames = offer_frames;
    sound = offer_sound;
    counts = offer_counts;
  }

-- ---- a slot

-- who leaves, by the words of its port
module _ (g : Gone) (o : Option Frame) (e : Option.map word_for o ≡ cond g.any (some g.word) none) where
  pub gone_none : o ≡ none → g.any ≡ false
  gone_none n = test g.any (λ y. absurd (none-ne-some g.word (rw (n, y) at e))) (λ y. y)

  pub gone_some : (x : Frame) → o ≡ some x → (g.any ≡ true) × (g.word ≡ word_for x)
  gone_some x n =
      test g.any (λ y. (y, sym (some-injective (word_for x) g.word (rw (n, y) at e)))) (λ y. absurd (some-ne-none (word_for x) (rw (n, y) at e)))

-- the words afterwards
module _ (b : Bridge) (port : ℕ) (y : is_port port ≡ true) where
  abbrev left : Gone
  left = leaves_at b.queues (port - 1)

  slot_none : left.any ≡ false → (slotted b port 0 0).words ≡ bridge b.counters left.words
  unfolding slotted
  slot_none n = rw (y, n)

  slot_some : left.any ≡ true → (slotted b port 0 0).words ≡ bridge (noted_at b.counters (pair_of (from_in left.word) port) Sent) left.words
  unfolding slotted
  slot_some t = rw (y, t)

module _ (b : Bridge) (h : List Event) (s : Says b h) (port : ℕ) (y : is_port port ≡ true) where
  abbrev slot : Event
  slot = Slot port

  abbrev queue : List Frame
  queue = waits h port

  abbrev gone : Gone
  gone = leaves_at b.queues (port - 1)

  pub who_leaves : Option.map word_for (leaver priority_of queue) ≡ cond gone.any (some gone.word) none
  who_leaves = sym (word_leaves queue) ∙ ap (leaver priority_in) (sym (s.frames port y)) ∙ leave_who b.queues s.queues-long (port - 1) (row_below port y)

  slot_frames : (p : ℕ) → is_port p ≡ true → waiting_at gone.words (p - 1) ≡ map word_for (waits (slot ∷ h) p)
  unfolding queue_after
  slot_frames p x =
      test (eqb port p)
      (λ e.
      subst (λ (k : ℕ). waiting_at gone.words (k - 1) ≡ map word_for (waits (slot ∷ h) k)) (eqb-true port p e)
      (leave_own b.queues s.queues-long (port - 1) (row_below port y) ∙ ap (stayers priority_in) (s.frames port y) ∙ words_stay queue
      ∙ ap (map word_for) (sym (own_waits slot h port (eq-eqb port port refl)))))
      (λ n.
      leave_other b.queues s.queues-long (port - 1) (row_below port y) (p - 1) (row_below p x) (row_own port y p x (λ e. eqb-false port p n (sym e))) ∙ s.frames p x
      ∙ ap (map word_for) (sym (other-waits slot h p n)))

  slot_sound : (p : ℕ) → is_port p ≡ true → AllSound p (waits (slot ∷ h) p)
  unfolding queue_after
  slot_sound p x =
      test (eqb port p)
      (λ e.
      subst (λ (k : ℕ). AllSound k (waits (slot ∷ h) k)) (eqb-true port p e)
      (subst (AllSound port) (sym (own_waits slot h port (eq-eqb port port refl))) (sound_stay port queue (s.sound port y))))
      (λ n. subst (AllSound p) (sym (other-waits slot h p n)) (s.sound p x))

  -- nobody leaves: no fate at any pair
  none_counts : leaver priority_of queue ≡ none → (f t : ℕ) → two_ports f t ≡ true → counters_at b.counters (pair_of f t) ≡ fold with_fate no_counters (fates (slot ∷ h) f t)
  unfolding fate_at
  none_counts o f t x =
      test (eqb port t)
      (λ e.
      let q : leaver priority_of (waits h t) ≡ none = subst (λ (k : ℕ). leaver priority_of (waits h k) ≡ none) (eqb-true port t e) o in
      rw (own_fates slot h f t e, q) (s.counts f t x))
      (λ n. rw (other-fates slot h f t n) (s.counts f t x))

  -- one leaves: it is sent, at its pair alone
  some_counts : (a : Frame) → leaver priority_of queue ≡ some a → (f t : ℕ) → two_ports f t ≡ true
      → counters_at (noted_at b.counters (pair_of a.from port) Sent) (pair_of f t) ≡ fold with_fate no_counters (fates (slot ∷ h) f t)
  unfolding fate_at
  some_counts a o f t x =
      let z = (sound_leaver port queue a (s.sound port y) o).two_ports_lem in
      test (eqb port t)
      (λ e.
      let q : leaver priority_of (waits h t) ≡ some a = subst (λ (k : ℕ). leaver priority_of (waits h k) ≡ some a) (eqb-true port t e) o in
      rw (own_fates slot h f t e, q)
      (test (eqb a.from f)
      (λ g. rw g (own z f t x (eqb-true a.from f g) (eqb-true port t e)))
      (λ g. rw g (noted_other b.counters s.counters-long a.from port z Sent f t x (λ k. eqb-false a.from f g k.0) ∙ s.counts f t x))))
      (λ n. rw (other-fates slot h f t n) (noted_other b.counters s.counters-long a.from port z Sent f t x (λ k. eqb-false port t n k.1) ∙ s.counts f t x))
    where
      own : two_ports a.from port ≡ true → (f t : ℕ) → two_ports f t ≡ true → a.from ≡ f → port ≡ t
          → counters_at (noted_at b.counters (pair_of a.from port) Sent) (pair_of f t) ≡ with_fate (fold with_fate no_counters (fates h f t)) Sent
      own z f t x p q =
          rw (← p, ← q) (at-noted b.counters s.counters-long (pair_of a.from port) (number_fits a.from port z) Sent ∙ ap (λ (c : Counters). with_fate c Sent) (s.counts a.from port z))

  slot_says : Says (slotted b port 0 0).words (slot ∷ h)
  slot_says = go (leaver priority_of queue) refl
    where
      go : (o : Option Frame) → leaver priority_of queue ≡ o → Says (slotted b port 0 0).words (slot ∷ h)
      go none e =
          subst (λ (k : Bridge). Says k (slot ∷ h)) (sym (slot_none b port y (gone_none gone none (ap (Option.map word_for) (sym e) ∙ who_leaves) refl)))
          (record {
            counters-long = s.counters-long;
            queues-long = leave_long b.queues s.queues-long (port - 1) (row_below port y);
            frames = slot_frames;
            sound = slot_sound;
            counts = none_counts e;
          })
      go (some a) e =
          let (t, w) = gone_some gone (some a) (ap (Option.map word_for) (sym e) ∙ who_leaves) a refl in
          let d = sound_leaver port queue a (s.sound port y) e in
          let c : noted_at b.counters (pair_of (from_in gone.word) port) Sent ≡ noted_at b.counters (pair_of a.from port) Sent =
          ap (λ (k : ℕ). noted_at b.counters (pair_of k port) Sent) (ap from_in w ∙ from_back port a d) in
          subst (λ (k : Bridge). Says k (slot ∷ h)) (sym (slot_some b port y t ∙ ap (λ (k : List ℕ). bridge k gone.words) c))
          (record {
            counters-long = long-noted b.counters s.counters-long (pair_of a.from port) (number_fits a.from port d.two_ports_lem) Sent;
            queues-long = leave_long b.queues s.queues-long (port - 1) (row_below port y);
            frames = slot_frames;
            sound = slot_sound;
            counts = some_counts a e;
          })

-- ---- any events

pub one_more : (b : Bridge) (h : List Event) → Says b h → (e : Event) → Real e → Says (words_after b e) (e ∷ h)
unfolding words_after
one_more b h s (Offer from to id v) r = offer_says b h s from to id v r
one_more b h s (Slot port) r = slot_says b h s port r

-- THE WORDS: after any events from fresh words they say what the events alone define
pub words_say : (h : List Event) → AllReal h → Says (words_by h) h
words_say [] r = fresh_says
words_say (e ∷ h) r = one_more (words_by h) h (words_say h r.1) e r.0
