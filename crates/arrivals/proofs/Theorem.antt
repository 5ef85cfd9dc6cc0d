-- After ANY run of calls from fresh memory, with any frames, a pair's session is what its own frames made of it; calls that name other pairs, frames of other
-- PGNs and requests that were answered 30 do not count. And each call is answered by it. Assumes nothing.
use Prim.Native.Nat.{ℕ, ◌+◌}
use native.Mathlib.Omega.{arith}
use native.Mathlib.Decide.{dec_lt}
use mathlib.Core.Path.{◌≡◌, refl, sym, ap, subst, ◌∙◌}
use mathlib.Core.Bool.{cond, ◌&&◌, and-true, and-false}
use mathlib.Core.Option.{Option, none}
use mathlib.Core.List.{List, [], ◌∷◌, ◌++◌}
use borrow.Author.Tests.{eqb-true, eqb-false, eq-eqb, leb-true, leb-false, lt-ltb, le-ltb, le-leb, lt-leb}
use lib.Dec.{leb}
use Rattle.words.specs.Runs.{fold}
use Rattle.words.proofs.Runs.{made_by}
use Rattle.words.proofs.Tests.{test}
use Rattle.answers.specs.Answers.{Said, plain, Outcome, outcome}
use Rattle.answers.specs.Tests.{in_order}
use Rattle.answers.proofs.Tests.{through}
use Rattle.frame.specs.Frame.{fields_of}
use Rattle.message.specs.Message.{served_tests}
use Rattle.session.specs.Session.{Session, briefly, tell}
use Rattle.session.specs.Cut.{size_said, pgn_said, number_of, seven_of}
use Rattle.transport.specs.Rows.{Memory, memory, row_with, session_of}
use Rattle.transport.specs.Calls.{request_pgn, packet_pgn, pair_in, request_tests, place_for, opens, requested, Received, noted, memory_after, takes_at, takes, arrived}
use Rattle.arrivals.specs.Events.{Event, Asks, Brings, subject, names, step, session_by, no_room, counts, kept}
use Rattle.arrivals.specs.Calls.{Call, Request, Packet, Fresh, after_call, run, heard, happened, event, memory_by}
use Rattle.arrivals.proofs.Rows.{session_at, session_none, Sane, sane_fresh, fresh_none}
use Rattle.arrivals.proofs.Steps.{asks_none, asks_own, brings_own, event_sane, event-other}
use Rattle.arrivals.proofs.Count.{no_room_lem}

-- ---- one event more

-- what it makes of its own pair's session, where every session is what is kept of the events before it made of it
own_step : (u : Memory) → Sane u → (h : List Event) → ((q : ℕ) → session_of u q ≡ session_by h q) → (e : Event)
    → session_of (event u e) (subject e) ≡ cond (counts h e) (step (session_of u (subject e)) e) (session_of u (subject e))
own_step u s h so (Asks pair size pgn) =
    test (leb 8 (place_for u.heads (pair + 1)))
    (λ y. rw (no_room_lem u s h so pair, y) (ap (λ (v : Memory). session_of v pair) (asks_none u s pair size pgn (leb-true 8 _ y))))
    (λ n. rw (no_room_lem u s h so pair, n) (asks_own u s pair size pgn (leb-false 8 _ n)))
own_step u s h so (Brings pair d) = brings_own u s pair d

module _ (m : Memory) (f : Fresh m) where
  -- the memory of every moment
  sane_by : (h : List Event) → Sane (memory_by m h)
  sane_by [] = sane_fresh m f
  sane_by (e ∷ h) = event_sane (memory_by m h) (sane_by h) e

  next : (e : Event) (h : List Event) → ((q : ℕ) → session_of (memory_by m h) q ≡ session_by (kept h) q) → (pair : ℕ)
      → session_of (memory_by m (e ∷ h)) pair ≡ cond (counts (kept h) e && names pair e) (step (session_of (memory_by m h) pair) e) (session_of (memory_by m h) pair)
  next e h so pair =
      test (names pair e)
      (λ y.
      subst
      (λ (k : ℕ). session_of (memory_by m (e ∷ h)) k ≡ cond (counts (kept h) e && names k e) (step (session_of (memory_by m h) k) e) (session_of (memory_by m h) k))
      (eqb-true (subject e) pair y)
      (rw (eq-eqb (subject e) (subject e) refl, and-true (counts (kept h) e)) (own_step (memory_by m h) (sane_by h) (kept h) so e)))
      (λ n. rw (n, and-false (counts (kept h) e)) (event-other (memory_by m h) (sane_by h) e pair (eqb-false (subject e) pair n)))

  sessions_are : (h : List Event) (pair : ℕ) → session_of (memory_by m h) pair ≡ session_by (kept h) pair
  sessions_are h pair = made_by names counts step none (λ g k. session_of (memory_by m g) k) (fresh_none m f) next h pair

-- ---- a run is its events

fold-append : {E S : Type 0} (act : S → E → S) (start : S) (a b : List E) → fold act start (a ++ b) ≡ fold act (fold act start b) a
fold-append act start [] b = refl
fold-append act start (e ∷ a) b = ap (λ (s : _). act s e) (fold-append act start a b)

call_is : (u : Memory) (c : Call) → after_call u c ≡ memory_by u (heard c)
unfolding requested arrived
call_is u (Request id len d) =
    let ts = served_tests request_pgn id len (fields_of id) ++ request_tests d in
    through (λ (o : Outcome). memory o.memory u.bytes) (λ n. outcome (plain n) u.heads) ts (opens u.heads (pair_in (fields_of id) + 1) (size_said d) (pgn_said d))
    ∙ sym (through (memory_by u) (λ n. []) ts (Asks (pair_in (fields_of id)) (size_said d) (pgn_said d) ∷ []))
call_is u (Packet id len d) =
    let ts = served_tests packet_pgn id len (fields_of id) in
    through (λ (r : Received). r.lent) (λ n. noted (briefly n) u []) ts (takes u [] (pair_in (fields_of id) + 1) d)
    ∙ sym (through (memory_by u) (λ n. []) ts (Brings (pair_in (fields_of id)) d ∷ []))

pub run_is : (m : Memory) (cs : List Call) → run m cs ≡ memory_by m (happened cs)
unfolding run happened
run_is m [] = refl
run_is m (c ∷ cs) =
    ap (λ (u : Memory). after_call u c) (run_is m cs) ∙ call_is (memory_by m (happened cs)) c ∙ sym (fold-append event m (heard c) (happened cs))

-- ---- a call is answered by its pair's session, on any words

pub told_is : (u : Memory) (out : List ℕ) (pair : ℕ) (d : List ℕ)
    → takes u out (pair + 1) d ≡ noted (tell (session_of u pair) (number_of d) (seven_of d)) (event u (Brings pair d)) out
unfolding takes takes_at
told_is u out pair d =
    elim (dec_lt (row_with u.heads (pair + 1)) 8) [
      | yes h ↦ rw (event, lt-ltb (row_with u.heads (pair + 1)) 8 h)
          (ap (λ (o : Option Session). noted (tell o (number_of d) (seven_of d)) (memory_after u (row_with u.heads (pair + 1)) d) out) (sym (session_at u pair h)))
      | no h ↦ rw (event, le-ltb (row_with u.heads (pair + 1)) 8 (omega arith))
          (ap (λ (o : Option Session). noted (tell o (number_of d) (seven_of d)) u out) (sym (session_none u pair (omega arith))))
    ]

-- the memory afterwards does not go by the buffer that is lent for the payload
pub any-buffer : (u : Memory) (out : List ℕ) (id len : ℕ) (d : List ℕ) → (arrived u out id len d).lent ≡ after_call u (Packet id len d)
unfolding arrived
any-buffer u out id len d =
    let ts = served_tests packet_pgn id len (fields_of id) in
    through (λ (r : Received). r.lent) (λ n. noted (briefly n) u out) ts (takes u out (pair_in (fields_of id) + 1) d)
    ∙ ap (in_order {A = ℕ} {B = Memory} (λ n. u) ts) (ap (λ (r : Received). r.lent) (told_is u out (pair_in (fields_of id)) d))
    ∙ sym (through (λ (r : Received). r.lent) (λ n. noted (briefly n) u []) ts (takes u [] (pair_in (fields_of id) + 1) d))

opens-answer : (u : Memory) (pair size pgn : ℕ) → (opens u.heads (pair + 1) size pgn).answer ≡ cond (leb 8 (place_for u.heads (pair + 1))) (plain 30) (plain 0)
unfolding opens
opens-answer u pair size pgn =
    elim (dec_lt (place_for u.heads (pair + 1)) 8) [
      | yes h ↦ rw (lt-ltb (place_for u.heads (pair + 1)) 8 h, lt-leb 8 (place_for u.heads (pair + 1)) h)
      | no h ↦ rw (le-ltb (place_for u.heads (pair + 1)) 8 (omega arith), le-leb 8 (place_for u.heads (pair + 1)) (omega arith))
    ]

-- ---- THE THEOREM

module _ (m : Memory) (f : Fresh m) (cs : List Call) where
  pub run_sane : Sane (run m cs)
  run_sane = subst (λ (u : Memory). Sane u) (sym (run_is m cs)) (sane_by m f (happened cs))

  -- the session of each pair
  pub session_is : (pair : ℕ) → session_of (run m cs) pair ≡ session_by (kept (happened cs)) pair
  session_is pair = ap (λ (u : Memory). session_of u pair) (run_is m cs) ∙ sessions_are m f (happened cs) pair

  -- the answer to any packet, and what the buffer holds afterwards
  pub packet_answered : (out : List ℕ) (id len : ℕ) (d : List ℕ)
      → arrived (run m cs) out id len d
      ≡ in_order (λ n. noted (briefly n) (run m cs) out) (served_tests packet_pgn id len (fields_of id))
      (noted (tell (session_by (kept (happened cs)) (pair_in (fields_of id))) (number_of d) (seven_of d)) (event (run m cs) (Brings (pair_in (fields_of id)) d)) out)
  unfolding arrived
  packet_answered out id len d =
      ap (in_order (λ n. noted (briefly n) (run m cs) out) (served_tests packet_pgn id len (fields_of id)))
      (told_is (run m cs) out (pair_in (fields_of id)) d
      ∙ ap (λ (o : Option Session). noted (tell o (number_of d) (seven_of d)) (event (run m cs) (Brings (pair_in (fields_of id)) d)) out) (session_is (pair_in (fields_of id))))

  -- the answer to any request: 30 where "all eight [are] taken by other pairs"
  pub request_answered : (id len : ℕ) (d : List ℕ)
      → (requested (run m cs).heads id len d).answer
      ≡ in_order (λ n. plain n) (served_tests request_pgn id len (fields_of id) ++ request_tests d) (cond (no_room (kept (happened cs)) (pair_in (fields_of id))) (plain 30) (plain 0))
  unfolding requested
  request_answered id len d =
      let ts = served_tests request_pgn id len (fields_of id) ++ request_tests d in
      let pair = pair_in (fields_of id) in
      through (λ (o : Outcome). o.answer) (λ n. outcome (plain n) (run m cs).heads) ts (opens (run m cs).heads (pair + 1) (size_said d) (pgn_said d))
      ∙ ap (in_order {A = ℕ} {B = Said} (λ n. plain n) ts)
      (opens-answer (run m cs) pair (size_said d) (pgn_said d)
      ∙ ap (λ b. cond {A = Said} b (plain 30) (plain 0)) (sym (no_room_lem (run m cs) run_sane (kept (happened cs)) session_is pair)))
