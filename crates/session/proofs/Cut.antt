-- A payload that was cut up comes out of its packets byte for byte: after n packets in order the session has the first 7 n bytes, and the last packet tells all of
-- them, without the filling. Assumes nothing.
use Prim.Native.Nat.{ℕ, suc, ◌+◌, ◌-◌, ◌*◌, ◌%◌, ◌^◌, ◌≤◌, ◌<◌}
use native.Mathlib.Numerals.{add-one}
use native.Mathlib.Omega.{arith}
use mathlib.Core.Path.{◌≡◌, refl, sym, ap, ◌∙◌}
use mathlib.Core.Bool.{false}
use mathlib.Core.Option.{none, some}
use mathlib.Core.List.{List, ◌++◌}
use borrow.Author.Tests.{le-ltb, eq-eqb}
use lib.ListN.{length, take, drop, length-take, length-drop, take-append-drop}
use lib.Seq.{take-add, take-append-add}
use Rattle.answers.specs.Answers.{done}
use Rattle.frame.proofs.Bytes.{pgn_back}
use Rattle.session.specs.Session.{packets_for, mismatched, Session, told, briefly, tell, after}
use Rattle.session.specs.Cut.{size_said, pgn_said, seven_from, number_of, seven_of, request_of, packet_of}
use Rattle.session.proofs.Steps.{is-next, is-last, not_last, goes_on, grows, finishes, ends}
use Rattle.session.proofs.Seven.{seven_long, seven_whole, seven_same, seven_front}

-- the last packet of a payload, by its number: all before it are full, and it carries the rest
pub last-number : (size n : ℕ) → 0 < size → packets_for size ≡ suc n → (7 * n < size) × (size ≤ 7 * suc n)
last-number size n p e = (omega arith, omega arith)

-- no payload of a session has more than 255 packets
pub few_packets : (size : ℕ) → size ≤ 1785 → packets_for size ≤ 255
few_packets size h = omega arith

-- ---- the request, as it is heard

pub size-sent : (size pgn : ℕ) → size_said (request_of size pgn) ≡ size
size-sent size pgn = omega arith

pub pgn-sent : (size pgn : ℕ) → pgn < 2 ^ 24 → pgn_said (request_of size pgn) ≡ pgn
pgn-sent size pgn h = pgn_back pgn h

pub not-mismatched : (size : ℕ) → 9 ≤ size → size ≤ 1785 → mismatched size (packets_for size) ≡ false
not-mismatched size least most = rw (le-ltb size 9 least, le-ltb 1785 size most, eq-eqb (packets_for size) (packets_for size) refl)

-- ---- the bytes

module _ (payload : List ℕ) (n : ℕ) where
  -- the bytes of packet n + 1, as they are heard
  pub seven_sent : seven_of (packet_of payload (suc n)) ≡ seven_from 255 (drop (7 * n) payload)
  seven_sent =
      let e : suc n - 1 ≡ n = omega arith in
      seven_same 0 (seven_from 255 (drop (7 * (suc n - 1)) payload)) (seven_long 255 (drop (7 * (suc n - 1)) payload))
      ∙ ap (λ (k : ℕ). seven_from 255 (drop (7 * k) payload)) e

  -- a full packet: seven bytes more
  pub seven_more : 7 * suc n ≤ length payload → take (7 * n) payload ++ seven_of (packet_of payload (suc n)) ≡ take (7 * suc n) payload
  seven_more h =
      ap (λ (l : List ℕ). take (7 * n) payload ++ l) (seven_sent ∙ seven_whole 255 (drop (7 * n) payload) room)
      ∙ sym (take-add (7 * n) 7 payload) ∙ ap (λ (k : ℕ). take k payload) sum
    where
      room : 7 ≤ length (drop (7 * n) payload)
      room = simp length-drop (omega arith)

      sum : 7 * n + 7 ≡ 7 * suc n
      sum = omega arith

  -- the last packet: all that came, without the filling
  pub seven_last : 7 * n ≤ length payload → length payload ≤ 7 * suc n → take (length payload) (take (7 * n) payload ++ seven_of (packet_of payload (suc n))) ≡ payload
  seven_last h k =
      ap (λ (l : List ℕ). take (length payload) (take (7 * n) payload ++ l)) seven_sent
      ∙ ap (λ (j : ℕ). take j (take (7 * n) payload ++ seven_from 255 (drop (7 * n) payload))) both
      ∙ take-append-add (take (7 * n) payload) (seven_from 255 (drop (7 * n) payload)) (length (drop (7 * n) payload))
      ∙ ap (λ (l : List ℕ). take (7 * n) payload ++ l) (seven_front 255 (drop (7 * n) payload) short)
      ∙ take-append-drop (7 * n) payload
    where
      both : length payload ≡ length (take (7 * n) payload) + length (drop (7 * n) payload)
      both = simp (length-take, length-drop) (omega arith)

      short : length (drop (7 * n) payload) ≤ 7
      short = simp length-drop (omega arith)

-- ---- the session

-- after n packets of a payload
abbrev pub so_far : List ℕ → ℕ → ℕ → Session
so_far payload pgn n = record { size = length payload; pgn = pgn % 2 ^ 24; next = suc n; bytes = take (7 * n) payload }

module _ (payload : List ℕ) (pgn n : ℕ) (most : length payload ≤ 1785) where
  -- a packet that is not the last
  module _ (h : 7 * suc n < length payload) where
    pub taken : tell (some (so_far payload pgn n)) (number_of (packet_of payload (suc n))) (seven_of (packet_of payload (suc n))) ≡ briefly 0
    taken =
        goes_on (so_far payload pgn n) (suc n) (seven_of (packet_of payload (suc n))) (is-next (suc n) (omega arith) (omega arith))
        (not_last (length payload) (suc n) h)

    pub one_more : after (some (so_far payload pgn n)) (number_of (packet_of payload (suc n))) (seven_of (packet_of payload (suc n))) ≡ some (so_far payload pgn (suc n))
    one_more =
        let more = seven_more payload n (omega arith) in
        grows (so_far payload pgn n) (suc n) (seven_of (packet_of payload (suc n))) (is-next (suc n) (omega arith) (omega arith))
        (not_last (length payload) (suc n) h)
        ∙ (λ i. some (record { size = length payload; pgn = pgn % 2 ^ 24; next = add-one (suc n) i; bytes = more i }))

  -- the last one
  module _ (h : 7 * n < length payload) (k : length payload ≤ 7 * suc n) where
    pub comes_out : tell (some (so_far payload pgn n)) (number_of (packet_of payload (suc n))) (seven_of (packet_of payload (suc n))) ≡ told (done (length payload)) (pgn % 2 ^ 24) payload
    comes_out =
        finishes (so_far payload pgn n) (suc n) (seven_of (packet_of payload (suc n))) (is-next (suc n) (omega arith) (omega arith))
        (is-last (length payload) (suc n) k)
        ∙ ap (told (done (length payload)) (pgn % 2 ^ 24)) (seven_last payload n (omega arith) k)

    pub none_left : after (some (so_far payload pgn n)) (number_of (packet_of payload (suc n))) (seven_of (packet_of payload (suc n))) ≡ none
    none_left =
        ends (so_far payload pgn n) (suc n) (seven_of (packet_of payload (suc n))) (is-next (suc n) (omega arith) (omega arith))
        (is-last (length payload) (suc n) k)
