-- What a person wants to know of long messages, after any run of calls from fresh memory (Theorem.antt): a payload that was cut up comes out whole, one pair's frames
-- change no other pair's session, when there is no room, and that freed room is used again. Assumes nothing.
use Prim.Native.Nat.{ℕ, zero, suc, ◌-◌, ◌*◌, ◌%◌, ◌^◌, ◌≤◌, ◌<◌}
use native.Mathlib.Omega.{arith}
use mathlib.Core.Path.{◌≡◌, refl, sym, ap, subst, ◌∙◌}
use mathlib.Core.Logic.{◌↔◌}
use mathlib.Core.Bool.{Bool, true, false, not, cond, ◌&&◌, and-false, and-eq-true_iff}
use mathlib.Core.Option.{Option, none, some}
use mathlib.Core.List.{List, [], ◌∷◌, ◌++◌, append_assoc}
use borrow.Author.Tests.{leb-true, le-leb, lt-leb, eqb-true, eqb-false, eq-eqb, ne_eqb, not-true}
use lib.Dec.{eqb}
use lib.ListN.{length, get_or, drop}
use Rattle.words.specs.Rising.{has, remove}
use Rattle.words.specs.Runs.{only, up_to, fold}
use Rattle.words.proofs.Rising.{remove-rising, remove-has, one_list}
use Rattle.words.proofs.Runs.{fold-up_to}
use Rattle.words.proofs.Tests.{test, never}
use Rattle.answers.specs.Answers.{Said, plain, done}
use Rattle.answers.proofs.Tests.{None, all_pass}
use Rattle.frame.specs.Frame.{fields_of}
use Rattle.message.specs.Message.{served_tests}
use Rattle.session.specs.Session.{packets_for, mismatched, Session, opened, is_next, Told, told, briefly, tell, after}
use Rattle.session.specs.Cut.{size_said, pgn_said, number_of, seven_of, request_of, packet_of, cut_to, cut_up}
use Rattle.session.proofs.Steps.{is_29, drops}
use Rattle.session.proofs.Cut.{last-number, size-sent, pgn-sent, not-mismatched, so_far, taken, one_more, comes_out, none_left}
use Rattle.transport.specs.Rows.{Memory, session_of}
use Rattle.transport.specs.Calls.{request_pgn, packet_pgn, pair_in, request_tests, requested, Received, noted, arrived}
use Rattle.arrivals.specs.Events.{Event, Asks, Brings, names, is_request, step, session_by, is_held, holders, no_room, counts, kept}
use Rattle.arrivals.specs.Calls.{Call, Request, Packet, Fresh, run, heard, happened, event, brought}
use Rattle.arrivals.proofs.Count.{holders_are, holders_rise, at_most}
use Rattle.arrivals.proofs.Theorem.{run_sane, session_is, packet_answered, request_answered}

-- ---- a request and a packet of a pair: frames that no test refuses

pub record IsPacket (pair id len : ℕ) : Type 0 where
  pub passes : None (served_tests packet_pgn id len (fields_of id))
  pub of : pair_in (fields_of id) ≡ pair

pub record IsRequest (pair size pgn id len : ℕ) (d : List ℕ) : Type 0 where
  pub passes : None (served_tests request_pgn id len (fields_of id) ++ request_tests d)
  pub of : pair_in (fields_of id) ≡ pair
  pub bytes-said : size_said d ≡ size
  pub of_pgn : pgn_said d ≡ pgn

-- the request that a sender sends for a payload is one
pub sent : (pair size pgn id len : ℕ) → 9 ≤ size → size ≤ 1785 → pgn < 2 ^ 24 → None (served_tests request_pgn id len (fields_of id)) → pair_in (fields_of id) ≡ pair
    → IsRequest pair size pgn id len (request_of size pgn)
sent pair size pgn id len least most three passes its = record {
  passes =
      let fits = ap (λ (k : ℕ). mismatched k (packets_for size)) (size-sent size pgn) ∙ not-mismatched size least most in
      (passes.0, (passes.1.0, (passes.1.1.0, (refl, (fits, tt)))));
  of = its;
  bytes-said = size-sent size pgn;
  of_pgn = pgn-sent size pgn three;
}

pub heard_packet : (pair id len : ℕ) (d : List ℕ) → IsPacket pair id len → heard (Packet id len d) ≡ Brings pair d ∷ []
heard_packet pair id len d p =
    all_pass (λ n. []) (served_tests packet_pgn id len (fields_of id)) (Brings (pair_in (fields_of id)) d ∷ []) p.passes
    ∙ ap (λ (q : ℕ). Brings q d ∷ []) p.of

pub heard_request : (pair size pgn id len : ℕ) (d : List ℕ) → IsRequest pair size pgn id len d → heard (Request id len d) ≡ Asks pair size pgn ∷ []
heard_request pair size pgn id len d r =
    let o = r.of in
    let s = r.bytes-said in
    let p = r.of_pgn in
    all_pass (λ n. []) (served_tests request_pgn id len (fields_of id) ++ request_tests d) (Asks (pair_in (fields_of id)) (size_said d) (pgn_said d) ∷ []) r.passes
    ∙ (λ i. Asks (o i) (s i) (p i) ∷ [])

-- ---- a session is what its pair's frames since its request made of it

same_again : (s t : Option Session) (e : Event) → is_request e ≡ true → step s e ≡ step t e
same_again s t (Asks pair size pgn) y = refl
same_again s t (Brings pair d) y = never y refl

pub since_request : (h : List Event) (pair : ℕ) → session_by h pair ≡ fold step none (up_to is_request (only (names pair) h))
since_request h pair = fold-up_to step none is_request same_again (only (names pair) h)

-- ---- events that are kept

-- none of them is a request
abbrev Packets : List Event → Type 0
Packets [] = Unit {0}
Packets (e ∷ h) = (is_request e ≡ false) × Packets h

all_packets : (pair : ℕ) (l : List (List ℕ)) → Packets (brought pair l)
all_packets pair [] = tt
all_packets pair (d ∷ l) = (refl, all_packets pair l)

packet_counts : (h : List Event) (e : Event) → is_request e ≡ false → counts h e ≡ true
packet_counts h (Asks pair size pgn) f = never refl f
packet_counts h (Brings pair d) f = refl

-- a pair's own packets are kept
kept_own : (pair : ℕ) (a h : List Event) → Packets (only (names pair) a) → only (names pair) (kept (a ++ h)) ≡ only (names pair) a ++ only (names pair) (kept h)
kept_own pair [] h p = refl
kept_own pair (e ∷ a) h p =
    test (names pair e)
    (λ y.
    let q : (is_request e ≡ false) × Packets (only (names pair) a) = rw y at p in
    rw (packet_counts (kept (a ++ h)) e q.0, y) (ap (λ (l : List Event). e ∷ l) (kept_own pair a h q.1)))
    (λ n.
    let ih = kept_own pair a h (rw n at p) in
    rw n (test (counts (kept (a ++ h)) e) (λ c. rw (c, n) ih) (λ c. rw c ih)))

happened-append : (a b : List Call) → happened (a ++ b) ≡ happened a ++ happened b
unfolding happened
happened-append [] b = refl
happened-append (c ∷ a) b = ap (λ (l : List Event). heard c ++ l) (happened-append a b) ∙ sym (append_assoc (heard c) (happened a) (happened b))

-- ---- after a run

module _ (m : Memory) (fresh : Fresh m) (cs : List Call) where
  -- what was kept of what happened
  abbrev past : List Event
  past = kept (happened cs)

  -- a call that does not name a pair leaves its session: another pair's frames, frames of other PGNs, requests that are not sound
  pub others_stay : (c : Call) (q : ℕ) → only (names q) (heard c) ≡ [] → session_of (run m (c ∷ cs)) q ≡ session_of (run m cs) q
  unfolding happened
  others_stay c q e =
      session_is m fresh (c ∷ cs) q
      ∙ ap (fold step none) (kept_own q (heard c) (happened cs) (subst Packets (sym e) tt) ∙ ap (λ (l : List Event). l ++ only (names q) past) e)
      ∙ sym (session_is m fresh cs q)

  -- ---- a packet

  module _ (pair id len : ℕ) (d : List ℕ) (its : IsPacket pair id len) where
    -- it is answered by its pair's session
    pub by_session : (out : List ℕ) → arrived (run m cs) out id len d ≡ noted (tell (session_by past pair) (number_of d) (seven_of d)) (event (run m cs) (Brings pair d)) out
    by_session out =
        packet_answered m fresh cs out id len d
        ∙ all_pass (λ n. noted (briefly n) (run m cs) out) (served_tests packet_pgn id len (fields_of id))
        (noted (tell (session_by past (pair_in (fields_of id))) (number_of d) (seven_of d)) (event (run m cs) (Brings (pair_in (fields_of id)) d)) out) its.passes
        ∙ ap (λ (q : ℕ). noted (tell (session_by past q) (number_of d) (seven_of d)) (event (run m cs) (Brings q d)) out) its.of

    -- and makes of that session what the definition says
    pub its_session : session_of (run m (Packet id len d ∷ cs)) pair ≡ after (session_by past pair) (number_of d) (seven_of d)
    unfolding happened
    its_session =
        session_is m fresh (Packet id len d ∷ cs) pair
        ∙ ap (λ (l : List Event). session_by (kept (l ++ happened cs)) pair) (heard_packet pair id len d its)
        ∙ rw (eq-eqb pair pair refl)

    -- no other pair is named
    pub not_named : (q : ℕ) → (pair ≡ q → ⊥) → only (names q) (heard (Packet id len d)) ≡ []
    not_named q ne = ap (only (names q)) (heard_packet pair id len d its) ∙ rw (ne_eqb pair q ne)

    -- "A packet out of sequence drops its session only": every number but the next one is (session: `not-next`), a later one and a repeated one, and so is 0 (`never_0`)
    module _ (s : Session) (held : session_by past pair ≡ some s) (off : is_next s.next (number_of d) ≡ false) where
      pub out_of_sequence : (out : List ℕ) → arrived (run m cs) out id len d ≡ noted (briefly 29) (event (run m cs) (Brings pair d)) out
      out_of_sequence out =
          by_session out
          ∙ ap (λ (t : Told). noted t (event (run m cs) (Brings pair d)) out)
          (ap (λ (o : Option Session). tell o (number_of d) (seven_of d)) held ∙ is_29 s (number_of d) (seven_of d) off)

      pub drops_its_session : session_of (run m (Packet id len d ∷ cs)) pair ≡ none
      drops_its_session = its_session ∙ ap (λ (o : Option Session). after o (number_of d) (seven_of d)) held ∙ drops s (number_of d) (seven_of d) off

      pub drops_no_other : (q : ℕ) → (pair ≡ q → ⊥) → session_of (run m (Packet id len d ∷ cs)) q ≡ session_of (run m cs) q
      drops_no_other q ne = others_stay (Packet id len d) q (not_named q ne)

  -- ---- a request

  module _ (id len : ℕ) (d : List ℕ) (passes : None (served_tests request_pgn id len (fields_of id) ++ request_tests d)) where
    answer-is : (requested (run m cs).heads id len d).answer ≡ cond (no_room past (pair_in (fields_of id))) (plain 30) (plain 0)
    answer-is =
        request_answered m fresh cs id len d
        ∙ all_pass (λ n. plain n) (served_tests request_pgn id len (fields_of id) ++ request_tests d) (cond (no_room past (pair_in (fields_of id))) (plain 30) (plain 0)) passes

    is_30 : no_room past (pair_in (fields_of id)) ≡ true → (requested (run m cs).heads id len d).answer.number ≡ 30
    is_30 y = ap (λ (a : Said). a.number) (answer-is ∙ ap (λ (b : Bool). cond {A = Said} b (plain 30) (plain 0)) y)

    is_0 : no_room past (pair_in (fields_of id)) ≡ false → (requested (run m cs).heads id len d).answer.number ≡ 0
    is_0 n = ap (λ (a : Said). a.number) (answer-is ∙ ap (λ (b : Bool). cond {A = Said} b (plain 30) (plain 0)) n)

    -- "30 all eight taken by other pairs", exactly: the pair has none, and eight have one
    pub thirty : ((requested (run m cs).heads id len d).answer.number ≡ 30) ↔ ((session_by past (pair_in (fields_of id)) ≡ none) × (length (holders past) ≡ 8))
    unfolding no_room
    thirty = (
      λ e. test (no_room past (pair_in (fields_of id))) (λ y.
          let (a, b) = (and-eq-true_iff (not (is_held (session_by past (pair_in (fields_of id))))) _).0 y in
          (not-held (session_by past (pair_in (fields_of id))) (not-true _ a), omega (arith, leb-true 8 (length (holders past)) b, at_most (run m cs) (run_sane m fresh cs) past (session_is m fresh cs))))
          (λ n. absurd (omega (arith, e, is_0 n))),
      λ u. is_30 ((and-eq-true_iff (not (is_held (session_by past (pair_in (fields_of id))))) _).1 (ap (λ (o : Option Session). not (is_held o)) u.0, le-leb 8 (length (holders past)) (omega (arith, u.1)))),
    )
      where
        not-held : (o : Option Session) → is_held o ≡ false → o ≡ none
        not-held none f = refl
        not-held (some s) f = never refl f

  module _ (pair size pgn id len : ℕ) (d : List ℕ) (ask : IsRequest pair size pgn id len d) (given : (requested (run m cs).heads id len d).answer.number ≡ 0) where
    has_room : no_room past pair ≡ false
    has_room =
        test (no_room past pair)
        (λ y. absurd (omega (arith, given, is_30 id len d ask.passes (ap (no_room past) ask.of ∙ y))))
        (λ n. n)

    -- what was kept up to the request, of this pair
    pub asked : only (names pair) (kept (happened (Request id len d ∷ cs))) ≡ Asks pair size pgn ∷ only (names pair) past
    unfolding happened
    asked =
        ap (λ (l : List Event). only (names pair) (kept (l ++ happened cs))) (heard_request pair size pgn id len d ask)
        ∙ rw (has_room, eq-eqb pair pair refl)

    -- "a new request to send replaces that pair's own session", and no other
    pub replaces : session_of (run m (Request id len d ∷ cs)) pair ≡ some (opened size pgn)
    replaces = session_is m fresh (Request id len d ∷ cs) pair ∙ ap (fold step none) asked

    pub replaces_no_other : (q : ℕ) → (pair ≡ q → ⊥) → session_of (run m (Request id len d ∷ cs)) q ≡ session_of (run m cs) q
    replaces_no_other q ne = others_stay (Request id len d) q (ap (only (names q)) (heard_request pair size pgn id len d ask) ∙ rw (ne_eqb pair q ne))

-- ---- a payload that was cut up

-- the session after the request and the first n packets
so_far_lem : (pair pgn : ℕ) (payload : List ℕ) → length payload ≤ 1785 → (g : List Event) (n : ℕ) → 7 * n < length payload
    → fold step none (brought pair (cut_to payload n) ++ (Asks pair (length payload) pgn ∷ g)) ≡ some (so_far payload pgn n)
unfolding cut_to
so_far_lem pair pgn payload most g zero h = refl
so_far_lem pair pgn payload most g (suc n) h =
    ap (λ (o : Option Session). after o (number_of (packet_of payload (suc n))) (seven_of (packet_of payload (suc n)))) (so_far_lem pair pgn payload most g n (omega arith))
    ∙ one_more payload pgn n most h

-- the last packet and those before it
cut_last : (payload : List ℕ) (n : ℕ) → packets_for (length payload) ≡ suc n → cut_up payload ≡ packet_of payload (suc n) ∷ cut_to payload n
unfolding cut_to
cut_last payload n e = ap (cut_to payload) e

-- a request for a payload was answered 0, and then came any calls of which those of its pair brought the payload's packets in order
module _ (m : Memory) (fresh : Fresh m) (pair pgn : ℕ) (payload : List ℕ) (least : 9 ≤ length payload) (most : length payload ≤ 1785)
    (earlier : List Call) (id len : ℕ) (d : List ℕ) (ask : IsRequest pair (length payload) pgn id len d)
    (given : (requested (run m earlier).heads id len d).answer.number ≡ 0) (between : List Call) where
  abbrev calls : List Call
  calls = between ++ (Request id len d ∷ earlier)

  by_now : (n : ℕ) → 7 * n < length payload → only (names pair) (happened between) ≡ brought pair (cut_to payload n)
      → session_by (kept (happened calls)) pair ≡ some (so_far payload pgn n)
  by_now n h own =
      let ask-kept = asked m fresh earlier pair (length payload) pgn id len d ask given in
      ap (fold step none)
      (ap (λ (l : List Event). only (names pair) (kept l)) (happened-append between (Request id len d ∷ earlier))
      ∙ kept_own pair (happened between) (happened (Request id len d ∷ earlier)) (subst Packets (sym own) (all_packets pair (cut_to payload n)))
      ∙ (λ i. own i ++ ask-kept i))
      ∙ so_far_lem pair pgn payload most (only (names pair) (kept (happened earlier))) n h

  -- each packet before the last is answered 0, with detail 0, and the buffer stays
  pub goes_on : (n : ℕ) → 7 * suc n < length payload → only (names pair) (happened between) ≡ brought pair (cut_to payload n)
      → (i l : ℕ) → IsPacket pair i l → (out : List ℕ)
      → arrived (run m calls) out i l (packet_of payload (suc n)) ≡ noted (briefly 0) (event (run m calls) (Brings pair (packet_of payload (suc n)))) out
  goes_on n h own i l its out =
      by_session m fresh calls pair i l (packet_of payload (suc n)) its out
      ∙ ap (λ (t : Told). noted t (event (run m calls) (Brings pair (packet_of payload (suc n)))) out)
      (ap (λ (o : Option Session). tell o (number_of (packet_of payload (suc n))) (seven_of (packet_of payload (suc n)))) (by_now n (omega arith) own) ∙ taken payload pgn n most h)

  -- the last packet
  module _ (last : List ℕ) (before : List (List ℕ)) (cut : cut_up payload ≡ last ∷ before) (own : only (names pair) (happened between) ≡ brought pair before)
      (i l : ℕ) (its : IsPacket pair i l) where
    abbrev n : ℕ
    n = packets_for (length payload) - 1

    many : packets_for (length payload) ≡ suc n
    many = omega (arith, least)

    number : (7 * n < length payload) × (length payload ≤ 7 * suc n)
    number = last-number (length payload) n (omega arith) many

    is_cut : last ∷ before ≡ packet_of payload (suc n) ∷ cut_to payload n
    is_cut = sym cut ∙ cut_last payload n many

    last-is : last ≡ packet_of payload (suc n)
    last-is = ap (λ (x : List (List ℕ)). get_or x 0 []) is_cut

    by_then : session_by (kept (happened calls)) pair ≡ some (so_far payload pgn n)
    by_then = by_now n number.0 (own ∙ ap (brought pair) (ap (λ (x : List (List ℕ)). drop 1 x) is_cut))

    -- "A finished payload is what the sender cut up, if all packets came in order; the last one's answer 0 carries its size": byte for byte, whatever other pairs
    -- sent in between, and whatever frames of other PGNs came; the payload's PGN is beside the answer
    pub whole : (out : List ℕ) → arrived (run m calls) out i l last ≡ noted (told (done (length payload)) (pgn % 2 ^ 24) payload) (event (run m calls) (Brings pair last)) out
    whole out =
        by_session m fresh calls pair i l last its out
        ∙ ap (λ (t : Told). noted t (event (run m calls) (Brings pair last)) out)
        (ap (λ (o : Option Session). tell o (number_of last) (seven_of last)) by_then
        ∙ ap (λ (x : List ℕ). tell (some (so_far payload pgn n)) (number_of x) (seven_of x)) last-is
        ∙ comes_out payload pgn n most number.0 number.1)

    -- "and the session ends"
    pub whole_ends : session_of (run m (Packet i l last ∷ calls)) pair ≡ none
    whole_ends =
        its_session m fresh calls pair i l last its
        ∙ ap (λ (o : Option Session). after o (number_of last) (seven_of last)) by_then
        ∙ ap (λ (x : List ℕ). after (some (so_far payload pgn n)) (number_of x) (seven_of x)) last-is
        ∙ none_left payload pgn n most number.0 number.1

-- "255 at most, so 1,785 bytes": the longest payload is carried by packets 1 to 255
pub longest : packets_for 1785 ≡ 255
longest = refl

-- ---- freed room is used again

length_removed : (x : ℕ) (l : List ℕ) → length (remove x l) ≤ length l
unfolding remove
length_removed x [] = omega arith
length_removed x (y ∷ l) = let ih = length_removed x l in test (eqb x y) (λ e. rw e (omega arith)) (λ n. rw n (omega arith))

one_less : (x : ℕ) (l : List ℕ) → has x l ≡ true → length (remove x l) < length l
unfolding has remove
one_less x [] e = never e refl
one_less x (y ∷ l) e =
    let le = length_removed x l in
    test (eqb x y) (λ s. rw s (omega arith))
    (λ n. let less = one_less x l (rw (ne_eqb y x (λ q. eqb-false x y n (sym q))) at e) in rw n (omega arith))

module _ (m : Memory) (fresh : Fresh m) (cs : List Call) (pair id len : ℕ) (d : List ℕ) (its : IsPacket pair id len)
    (had : is_held (session_by (kept (happened cs)) pair) ≡ true) (gone : session_of (run m (Packet id len d ∷ cs)) pair ≡ none) where
  -- the session is over, by its last packet or by one out of sequence: one pair less has one
  holders-left : holders (kept (happened (Packet id len d ∷ cs))) ≡ remove pair (holders (kept (happened cs)))
  holders-left =
      one_list (holders (kept (happened (Packet id len d ∷ cs)))) (remove pair (holders (kept (happened cs))))
      (holders_rise (kept (happened (Packet id len d ∷ cs)))) (remove-rising pair (holders (kept (happened cs))) (holders_rise (kept (happened cs))))
      (λ q.
      holders_are (kept (happened (Packet id len d ∷ cs))) q ∙ ap is_held (sym (session_is m fresh (Packet id len d ∷ cs) q))
      ∙ test (eqb pair q) (mine q) (other q) ∙ sym (remove-has q pair (holders (kept (happened cs)))))
    where
      mine : (q : ℕ) → eqb pair q ≡ true → is_held (session_of (run m (Packet id len d ∷ cs)) q) ≡ (not (eqb pair q) && has q (holders (kept (happened cs))))
      mine q y = ap (λ (k : ℕ). is_held (session_of (run m (Packet id len d ∷ cs)) k)) (sym (eqb-true pair q y)) ∙ ap is_held gone ∙ rw y

      other : (q : ℕ) → eqb pair q ≡ false → is_held (session_of (run m (Packet id len d ∷ cs)) q) ≡ (not (eqb pair q) && has q (holders (kept (happened cs))))
      other q n =
          ap is_held (others_stay m fresh cs (Packet id len d) q (not_named m fresh cs pair id len d its q (eqb-false pair q n)) ∙ session_is m fresh cs q)
          ∙ sym (holders_are (kept (happened cs)) q) ∙ rw n

  room : (q : ℕ) → no_room (kept (happened (Packet id len d ∷ cs))) q ≡ false
  unfolding no_room
  room q =
      let less = one_less pair (holders (kept (happened cs))) (holders_are (kept (happened cs)) pair ∙ had) in
      let few = at_most (run m cs) (run_sane m fresh cs) (kept (happened cs)) (session_is m fresh cs) in
      let left : length (holders (kept (happened (Packet id len d ∷ cs)))) < 8 = omega (arith, ap length holders-left, less, few) in
      rw (lt-leb 8 (length (holders (kept (happened (Packet id len d ∷ cs))))) left) (and-false (not (is_held (session_by (kept (happened (Packet id len d ∷ cs))) q))))

  -- so the next sound request is answered 0, whichever pair's it is
  pub room_again : (i l : ℕ) (e : List ℕ) → None (served_tests request_pgn i l (fields_of i) ++ request_tests e) → (requested (run m (Packet id len d ∷ cs)).heads i l e).answer ≡ plain 0
  room_again i l e passes =
      answer-is m fresh (Packet id len d ∷ cs) i l e passes ∙ ap (λ (b : Bool). cond {A = Said} b (plain 30) (plain 0)) (room (pair_in (fields_of i)))

-- ---- "a pair's answers depend on its own frames since its last request"

-- what a packet's caller gets: the answer, the PGN beside it, and the buffer
abbrev pub shown : Received → Said × ℕ × List ℕ
shown r = (r.answer, r.pgn, r.out)

-- two runs in which the pair's frames since its last request are the same leave it the same session, and answer a packet alike
module _ (m n : Memory) (fresh : Fresh m) (fresh' : Fresh n) (cs ds : List Call) (pair : ℕ)
    (same : up_to is_request (only (names pair) (kept (happened cs))) ≡ up_to is_request (only (names pair) (kept (happened ds)))) where
  alike : session_by (kept (happened cs)) pair ≡ session_by (kept (happened ds)) pair
  alike = since_request (kept (happened cs)) pair ∙ ap (fold step none) same ∙ sym (since_request (kept (happened ds)) pair)

  pub same_session : session_of (run m cs) pair ≡ session_of (run n ds) pair
  same_session = session_is m fresh cs pair ∙ alike ∙ sym (session_is n fresh' ds pair)

  pub same-told : (id len : ℕ) (d out : List ℕ) → IsPacket pair id len → shown (arrived (run m cs) out id len d) ≡ shown (arrived (run n ds) out id len d)
  same-told id len d out its =
      ap shown (by_session m fresh cs pair id len d its out)
      ∙ ap (λ (o : Option Session). shown (noted (tell o (number_of d) (seven_of d)) m out)) alike
      ∙ sym (ap shown (by_session n fresh' ds pair id len d its out))
