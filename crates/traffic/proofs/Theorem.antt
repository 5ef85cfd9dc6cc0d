-- After ANY run of calls from fresh counters and queues, with any filters and any numbers: each counter is the number that the trace defines, each port's words hold the frames that wait there, and each call is
-- answered by them. Assumes nothing.
use Prim.Native.Nat.{ℕ, suc, ◌-◌, ◌^◌, ◌≤◌, ◌<◌}
use native.Mathlib.Omega.{arith}
use mathlib.Core.Path.{◌≡◌, refl, sym, ap, ap₂, subst, ◌∙◌}
use mathlib.Core.Bool.{true, false}
use mathlib.Core.Option
use mathlib.Core.Option.{Option, none, some}
use mathlib.Core.List.{List, [], ◌∷◌, ◌++◌, map}
use borrow.Author.Tests.{ltb-false}
use lib.Dec.{eqb, ltb}
use lib.ListN.{length, length-map}
use Rattle.words.specs.Runs.{fold}
use Rattle.words.proofs.Tests.{test}
use Rattle.answers.specs.Answers.{Said, plain}
use Rattle.frame.specs.Frame.{greatest_identifier}
use Rattle.pairs.specs.Pairs.{decided_by}
use Rattle.ports.specs.Filters.{two_ports, pair_of, fresh_words, commanded, decided}
use Rattle.commands.specs.Calls as commands
use Rattle.commands.proofs.Commands as commands'
use Rattle.counters.specs.declared.Fate.{Fate}
use Rattle.counters.specs.Words.{counters_at}
use Rattle.queue.specs.Queue.{leaver}
use Rattle.queue.specs.Row.{word_of, how_many, Entered, enters_at, leaves_at}
use Rattle.queue.proofs.Rows.{waiting-most}
use Rattle.bridge.specs.Bridge.{Bridge, fresh_bridge, is_port, first_other, second_other, third_other, To, NoPort, answer_to, Met, met_by, replied, counted_as, offered_to, offers, offered, Slotted, slotted_as, sent_from, slotted, stands, standing}
use Rattle.bridge.proofs.Calls.{each_port}
use Rattle.traffic.specs.Traffic.{Verdict, Refuses, Blocks, Passes, Event, Offer, Slot, Frame, priority_of, fate_of, waits, came_from, many_from, waiting, counters_of}
use Rattle.traffic.specs.Runs.{Call, Arrives, Leaves, Order, state, after_call, run, verdict_of, filters_by, offer_to, heard, happened, met_as, words_after, words_by, Real, AllReal, becomes, slot_said}
use Rattle.traffic.proofs.Sums.{counters_by}
use Rattle.traffic.proofs.Frames.{word_for, from_back, id_back, AllSound, sound_leaver}
use Rattle.traffic.proofs.Words.{Says, row_below, port_to, other-waits, fate_by, gone_none, gone_some, who_leaves, one_more, words_say}

-- ---- ports

-- the three others make three pairs with it, and no two of them are one
pub record Others (p : ℕ) : Type 0 where
  pub first_two : two_ports p (first_other p) ≡ true
  pub second_two : two_ports p (second_other p) ≡ true
  pub third_two : two_ports p (third_other p) ≡ true
  pub first-second : eqb (first_other p) (second_other p) ≡ false
  pub first-third : eqb (first_other p) (third_other p) ≡ false
  pub second-third : eqb (second_other p) (third_other p) ≡ false

pub others : (p : ℕ) → is_port p ≡ true → Others p
unfolding two_ports
others =
    each_port Others (record { first_two = refl; second_two = refl; third_two = refl; first-second = refl; first-third = refl; second-third = refl })
    (record { first_two = refl; second_two = refl; third_two = refl; first-second = refl; first-third = refl; second-third = refl })
    (record { first_two = refl; second_two = refl; third_two = refl; first-second = refl; first-third = refl; second-third = refl })
    (record { first_two = refl; second_two = refl; third_two = refl; first-second = refl; first-third = refl; second-third = refl })

-- ---- events of calls are real

real_any : (f t id : ℕ) → two_ports f t ≡ true → id < 2 ^ 32 → (v : Verdict) → Real (Offer f t id v)
real_any f t id y h Refuses = y
real_any f t id y h Blocks = y
real_any f t id y h Passes = (y, h)

-- an identifier of more than 29 bits is refused, so a frame that passes has a word's room
real_offer : (w : List ℕ) (id f t : ℕ) → two_ports f t ≡ true → Real (offer_to w id f t)
unfolding decided decided_by verdict_of
real_offer w id f t y =
    test (ltb greatest_identifier id) (λ l. rw (y, l) y) (λ l. real_any f t id y (omega (arith, ltb-false greatest_identifier id l)) (verdict_of (decided w f t id)))

real_append : (a b : List Event) → AllReal a → AllReal b → AllReal (a ++ b)
real_append [] b r s = s
real_append (e ∷ a) b r s = (r.0, real_append a b r.1 s)

real_heard : (w : List ℕ) (c : Call) → AllReal (heard w c)
real_heard w (Arrives port id) =
    test (is_port port)
    (λ y. let o = others port y in rw y (real_offer w id port (third_other port) o.third_two, (real_offer w id port (second_other port) o.second_two, (real_offer w id port (first_other port) o.first_two, tt))))
    (λ n. rw n tt)
real_heard w (Leaves port) = test (is_port port) (λ y. rw y (y, tt)) (λ n. rw n tt)
real_heard w (Order from to c) = tt

pub real_run : (w : List ℕ) (cs : List Call) → AllReal (happened w cs)
unfolding happened
real_run w [] = tt
real_run w (c ∷ cs) = real_append (heard (filters_by w cs) c) (happened w cs) (real_heard (filters_by w cs) c) (real_run w cs)

-- ---- a call is its events

-- what the filter's answer says, and what becomes of the frame
met_as_lem : (d : Said) (e : Entered) (q : List ℕ) → met_by d e q ≡ met_as (verdict_of d) e q
unfolding met_by met_as verdict_of
met_as_lem d e q = test (eqb d.number 0) (λ y. rw y (test (eqb d.detail 0) (λ z. rw z) (λ z. rw z))) (λ n. rw n)

module _ (b : Bridge) (w : List ℕ) (f t id : ℕ) where
  abbrev how : Met
  how = met_as (verdict_of (decided w f t id)) (enters_at b.queues (t - 1) (word_of f id)) b.queues

  pub offer_event : offered_to b w f t id ≡ replied how.fate (words_after b (offer_to w id f t))
  unfolding offered_to words_after
  offer_event = ap (counted_as b (pair_of f t)) (met_as_lem (decided w f t id) (enters_at b.queues (t - 1) (word_of f id)) b.queues)

-- the filters of a run are its commands'
pub run-filters : (w : List ℕ) (cs : List Call) → (run w cs).filters ≡ filters_by w cs
unfolding run filters_by
run-filters w [] = refl
run-filters w (Arrives port id ∷ cs) = run-filters w cs
run-filters w (Leaves port ∷ cs) = run-filters w cs
run-filters w (Order from to c ∷ cs) = ap (λ (v : List ℕ). (commanded v from to c).memory) (run-filters w cs)

-- how many of some frames came from a port, by their words
many_words : (f t : ℕ) (l : List Frame) → AllSound t l → how_many f (map word_for l) ≡ many_from f l
many_words f t [] a = refl
many_words f t (x ∷ l) a =
    rw (from_back t x a.0) (test (came_from f x) (λ y. rw y (ap suc (many_words f t l a.1))) (λ n. rw n (many_words f t l a.1)))

slot-event : (b : Bridge) (port : ℕ) → words_after b (Slot port) ≡ (slotted b port 0 0).words
unfolding words_after
slot-event b port = refl

no_slot : (b : Bridge) (port f i : ℕ) → is_port port ≡ false → slotted b port f i ≡ slotted_as (plain 15) b f i
unfolding slotted
no_slot b port f i n = rw n

-- the bridge's words of a run are its events'
call_words : (b : Bridge) (w : List ℕ) (c : Call) → (after_call (state b w) c).words ≡ fold words_after b (heard w c)
unfolding offered
call_words b w (Arrives port id) =
    test (is_port port)
    (λ y.
    let o₁ = offer_to w id port (first_other port) in
    let o₂ = offer_to w id port (second_other port) in
    rw (y, offer_event b w port (first_other port) id, offer_event (words_after b o₁) w port (second_other port) id, offer_event (words_after (words_after b o₁) o₂) w port (third_other port) id))
    (λ n. rw n)
call_words b w (Leaves port) = test (is_port port) (λ y. rw y (sym (slot-event b port))) (λ n. rw n (ap (λ (s : Slotted). s.words) (no_slot b port 0 0 n)))
call_words b w (Order from to c) = refl

fold-append : {E S : Type 0} (act : S → E → S) (start : S) (a b : List E) → fold act start (a ++ b) ≡ fold act (fold act start b) a
fold-append act start [] b = refl
fold-append act start (e ∷ a) b = ap (λ (s : _). act s e) (fold-append act start a b)

pub run-words : (w : List ℕ) (cs : List Call) → (run w cs).words ≡ words_by (happened w cs)
unfolding run happened
run-words w [] = refl
run-words w (c ∷ cs) =
    call_words (run w cs).words (run w cs).filters c
    ∙ ap₂ (λ (v : List ℕ) (k : Bridge). fold words_after k (heard v c)) (run-filters w cs) (run-words w cs)
    ∙ sym (fold-append words_after fresh_bridge (heard (filters_by w cs) c) (happened w cs))

-- ---- THE THEOREM

module _ (w : List ℕ) (cs : List Call) where
  pub run_says : Says (run w cs).words (happened w cs)
  run_says = subst (λ (b : Bridge). Says b (happened w cs)) (sym (run-words w cs)) (words_say (happened w cs) (real_run w cs))

  -- each counter is the number that the trace defines, modulo 2^64
  pub counters_are : (f t : ℕ) → two_ports f t ≡ true → counters_at (run w cs).words.counters (pair_of f t) ≡ counters_of (happened w cs) f t
  counters_are f t y = run_says.counts f t y ∙ counters_by (happened w cs) f t

  -- what is asked of a pair: its counters and how many of its frames wait
  pub stands_as : (f t : ℕ) → two_ports f t ≡ true → standing (run w cs).words f t ≡ stands (plain 0) (counters_of (happened w cs) f t) (waiting (happened w cs) f t)
  unfolding standing
  stands_as f t y =
      let p = port_to f t y in
      rw (y, counters_are f t y, run_says.frames t p) (ap (stands (plain 0) (counters_of (happened w cs) f t)) (many_words f t (waits (happened w cs) t) (run_says.sound t p)))

  -- no more than 64 wait at a port
  pub at-most_64 : (p : ℕ) → is_port p ≡ true → length (waits (happened w cs) p) ≤ 64
  at-most_64 p y =
      omega (arith, waiting-most (run w cs).words.queues run_says.queues-long (p - 1) (row_below p y), ap length (run_says.frames p y), length-map (waits (happened w cs) p) word_for)

-- ---- what calls are answered

-- a frame at one port, where the words say what waits there
one_offer : (b : Bridge) (h : List Event) → Says b h → (w : List ℕ) (f t id : ℕ) → two_ports f t ≡ true → offered_to b w f t id ≡ replied (becomes w h id f t) (words_after b (offer_to w id f t))
one_offer b h s w f t id y =
    offer_event b w f t id ∙ ap (λ (g : Fate). replied g (words_after b (offer_to w id f t))) (fate_by b h s f t id (verdict_of (decided w f t id)) y)

-- at the three others: none of them knows of what became of it at another
three-offers : (b : Bridge) (h : List Event) → Says b h → (w : List ℕ) (p id : ℕ) → is_port p ≡ true
    → offered b w p id ≡ offers (To (becomes w h id p (first_other p)) (becomes w h id p (second_other p)) (becomes w h id p (third_other p))) (fold words_after b (heard w (Arrives p id)))
unfolding offered
three-offers b h s w p id y =
    let t = others p y in
    let o₁ = offer_to w id p (first_other p) in
    let o₂ = offer_to w id p (second_other p) in
    let b₁ = words_after b o₁ in
    let s₁ = one_more b h s o₁ (real_offer w id p (first_other p) t.first_two) in
    let b₂ = words_after b₁ o₂ in
    let s₂ = one_more b₁ (o₁ ∷ h) s₁ o₂ (real_offer w id p (second_other p) t.second_two) in
    let e₂ : waits (o₁ ∷ h) (second_other p) ≡ waits h (second_other p) = other-waits o₁ h (second_other p) t.first-second in
    let e₃ : waits (o₂ ∷ o₁ ∷ h) (third_other p) ≡ waits h (third_other p) = other-waits o₂ (o₁ ∷ h) (third_other p) t.second-third ∙ other-waits o₁ h (third_other p) t.first-third in
    let at : ℕ → List Frame → Fate = λ k l. fate_of (verdict_of (decided w p k id)) l in
    let second : offered_to b₁ w p (second_other p) id ≡ replied (becomes w h id p (second_other p)) b₂ =
    one_offer b₁ (o₁ ∷ h) s₁ w p (second_other p) id t.second_two ∙ ap (λ (l : List Frame). replied (at (second_other p) l) b₂) e₂ in
    let third : offered_to b₂ w p (third_other p) id ≡ replied (becomes w h id p (third_other p)) (words_after b₂ (offer_to w id p (third_other p))) =
    one_offer b₂ (o₂ ∷ o₁ ∷ h) s₂ w p (third_other p) id t.third_two ∙ ap (λ (l : List Frame). replied (at (third_other p) l) (words_after b₂ (offer_to w id p (third_other p)))) e₃ in
    rw (y, one_offer b h s w p (first_other p) id t.first_two, second, third)

module _ (w : List ℕ) (cs : List Call) where
  -- a frame, after any run: what becomes of it at each of the three other ports, by the filters and by the frames that wait there
  pub frame_answered : (p id : ℕ) → is_port p ≡ true
      → offered (run w cs).words (filters_by w cs) p id
      ≡ offers
      (To (becomes (filters_by w cs) (happened w cs) id p (first_other p)) (becomes (filters_by w cs) (happened w cs) id p (second_other p)) (becomes (filters_by w cs) (happened w cs) id p (third_other p)))
      (fold words_after (run w cs).words (heard (filters_by w cs) (Arrives p id)))
  frame_answered p id y = three-offers (run w cs).words (happened w cs) (run_says w cs) (filters_by w cs) p id y

  -- a slot, after any run: the earliest of the highest priority leaves, if one waits
  pub slot_answered : (p f i : ℕ) → is_port p ≡ true → slotted (run w cs).words p f i ≡ slot_said (slotted (run w cs).words p 0 0).words f i (leaver priority_of (waits (happened w cs) p))
  unfolding slotted answer_to
  slot_answered p f i y = rw y (go (leaver priority_of (waits (happened w cs) p)) refl)
    where
      go : (o : Option Frame) → leaver priority_of (waits (happened w cs) p) ≡ o
          → sent_from (run w cs).words p f i (leaves_at (run w cs).words.queues (p - 1)) ≡ slot_said (sent_from (run w cs).words p 0 0 (leaves_at (run w cs).words.queues (p - 1))).words f i o
      go none e =
          let n = gone_none (leaves_at (run w cs).words.queues (p - 1)) none (ap (Option.map word_for) (sym e) ∙ who_leaves (run w cs).words (happened w cs) (run_says w cs) p y) refl in
          rw n
      go (some x) e =
          let (t, k) = gone_some (leaves_at (run w cs).words.queues (p - 1)) (some x) (ap (Option.map word_for) (sym e) ∙ who_leaves (run w cs).words (happened w cs) (run_says w cs) p y) x refl in
          let d = sound_leaver p (waits (happened w cs) p) x ((run_says w cs).sound p y) e in
          rw (t, k, from_back p x d, id_back p x d)

-- 15: "no counter", and nothing else; on any words
pub frame_15 : (b : Bridge) (w : List ℕ) (p id : ℕ) → is_port p ≡ false → offered b w p id ≡ offers NoPort b
unfolding offered
frame_15 b w p id n = rw n

pub slot_15 : (b : Bridge) (p f i : ℕ) → is_port p ≡ false → slotted b p f i ≡ slotted_as (plain 15) b f i
slot_15 b p f i n = no_slot b p f i n

-- ---- the filters are the commands': with fresh ones each frame is decided on by the commands that name its pair

-- a run's commands
abbrev pub orders : List Call → List commands.PortCall
orders [] = []
orders (Arrives port id ∷ cs) = orders cs
orders (Leaves port ∷ cs) = orders cs
orders (Order from to c ∷ cs) = record { from = from; to = to; ask = commands.Order c } ∷ orders cs

filters_are : (cs : List Call) → filters_by fresh_words cs ≡ commands.filters_after (orders cs)
unfolding filters_by
filters_are [] = refl
filters_are (Arrives port id ∷ cs) = filters_are cs
filters_are (Leaves port ∷ cs) = filters_are cs
filters_are (Order from to c ∷ cs) = ap (λ (v : List ℕ). (commanded v from to c).memory) (filters_are cs)

pub decided_by_commands : (cs : List Call) (f t id : ℕ) → two_ports f t ≡ true → decided (filters_by fresh_words cs) f t id ≡ decided_by (commands.pair_after (orders cs) f t) id
decided_by_commands cs f t id y =
    ap (λ (v : List ℕ). decided v f t id) (filters_are cs) ∙ commands'.answered (orders cs) (record { from = f; to = t; ask = commands.Decide id }) ∙ rw y
