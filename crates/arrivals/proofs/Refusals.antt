-- Demand 1 on the sessions, on any words: a call's number is one of a fixed list; every refusal but 29 leaves every word, every byte and the buffer; and an answer
-- whose detail is 0 leaves the buffer. Assumes nothing.
use Prim.Native.Nat.{ℕ}
use native.Mathlib.Omega.{arith}
use native.Mathlib.Decide.{dec_lt}
use mathlib.Core.Path.{◌≡◌, refl, ap}
use mathlib.Core.Bool.{true, or-true}
use mathlib.Core.List.{List, [], ◌∷◌, ◌++◌}
use borrow.Author.Tests.{eqb-true, lt-ltb, le-ltb}
use lib.Dec.{eqb}
use lib.ListN.{take}
use Rattle.words.proofs.Tests.{test, never}
use Rattle.answers.specs.Answers.{plain, Outcome, outcome}
use Rattle.answers.proofs.Tests.{one_of, from_list, each_way}
use Rattle.frame.specs.Frame.{fields_of}
use Rattle.message.specs.Message.{served_tests}
use Rattle.splice.specs.Splice.{splice}
use Rattle.session.specs.Session.{is_next, is_last, briefly}
use Rattle.session.specs.Cut.{size_said, pgn_said, number_of, seven_of}
use Rattle.transport.specs.Rows.{Memory, next_word, size_word, row_of, row_with, session_in}
use Rattle.transport.specs.Calls.{request_pgn, packet_pgn, holder_in, request_tests, place_for, opens, requested, Received, noted, takes_at, takes, arrived}

-- ---- one of a list

-- of a list with one more in front, which is one of another list
in_either : (k a : ℕ) (ys xs : List ℕ) → one_of k (a ∷ xs) ≡ true → one_of a ys ≡ true → one_of k (ys ++ xs) ≡ true
in_either k a [] xs e f = never f refl
in_either k a (y ∷ ys) xs e f =
    test (eqb a y) (λ t. test (eqb k a) (λ s. rw (eqb-true k a s, t)) (λ n. rw (behind k ys xs (rw n at e)) (or-true (eqb k y))))
    (λ t. rw (in_either k a ys xs e (rw t at f)) (or-true (eqb k y)))
  where
    behind : (k : ℕ) (ys xs : List ℕ) → one_of k xs ≡ true → one_of k (ys ++ xs) ≡ true
    behind k [] xs e = e
    behind k (y ∷ ys) xs e = rw (behind k ys xs e) (or-true (eqb k y))

-- ---- a request

module _ (heads : List ℕ) (id len : ℕ) (d : List ℕ) where
  abbrev opening : Outcome
  opening = opens heads (holder_in (fields_of id)) (size_said d) (pgn_said d)

  opens_list : one_of opening.answer.number (0 ∷ 30 ∷ []) ≡ true
  unfolding opens
  opens_list =
      elim (dec_lt (place_for heads (holder_in (fields_of id))) 8) [
        | yes h ↦ rw (lt-ltb (place_for heads (holder_in (fields_of id))) 8 h)
        | no h ↦ rw (le-ltb (place_for heads (holder_in (fields_of id))) 8 (omega arith))
      ]

  pub request_list : one_of (requested heads id len d).answer.number (0 ∷ 30 ∷ 1 ∷ 2 ∷ 3 ∷ 24 ∷ 31 ∷ []) ≡ true
  unfolding requested
  request_list =
      in_either _ opening.answer.number (0 ∷ 30 ∷ []) (1 ∷ 2 ∷ 3 ∷ 24 ∷ 31 ∷ [])
      (from_list (λ n. n) (λ (o : Outcome). o.answer.number) (λ n. outcome (plain n) heads) (λ n. refl) (served_tests request_pgn id len (fields_of id) ++ request_tests d) opening)
      opens_list

  opens_leaves : (opening.answer.number ≡ 0 → ⊥) → opening.memory ≡ heads
  unfolding opens
  opens_leaves =
      elim (dec_lt (place_for heads (holder_in (fields_of id))) 8) [
        | yes h ↦ rw (lt-ltb (place_for heads (holder_in (fields_of id))) 8 h) (λ z. absurd (z refl))
        | no h ↦ rw (le-ltb (place_for heads (holder_in (fields_of id))) 8 (omega arith)) (λ z. refl)
      ]

  -- a refused request leaves every word
  pub request_leaves : ((requested heads id len d).answer.number ≡ 0 → ⊥) → (requested heads id len d).memory ≡ heads
  unfolding requested
  request_leaves =
      each_way (λ (o : Outcome). (o.answer.number ≡ 0 → ⊥) → o.memory ≡ heads) (λ n. outcome (plain n) heads) (served_tests request_pgn id len (fields_of id) ++ request_tests d) opening
      (λ n z. refl) opens_leaves

-- ---- a packet

module _ (u : Memory) (out d : List ℕ) where
  -- what is so without a session, and in each row, is so of every packet
  by_row : (P : Received → Type 0) (holder : ℕ) → P (noted (briefly 28) u out) → ((i : ℕ) → P (takes_at u out i d)) → P (takes u out holder d)
  unfolding takes
  by_row P holder none each =
      elim (dec_lt (row_with u.heads holder) 8) [
        | yes h ↦ rw (lt-ltb (row_with u.heads holder) 8 h) (each (row_with u.heads holder))
        | no h ↦ rw (le-ltb (row_with u.heads holder) 8 (omega arith)) none
      ]

  abbrev words : ℕ → List ℕ
  words i = (row_of u i).head

  -- in a row: the last packet, one more, one out of sequence
  row_list : (i : ℕ) → one_of (takes_at u out i d).answer.number (0 ∷ 28 ∷ 29 ∷ []) ≡ true
  unfolding takes_at
  row_list i = test (is_next (next_word (words i)) (number_of d)) (λ y. rw y (test (is_last (size_word (words i)) (number_of d)) (λ l. rw l) (λ l. rw l))) (λ f. rw f)

  abbrev Leaves : Received → Type 0
  Leaves r = (r.answer.number ≡ 0 → ⊥) → (r.answer.number ≡ 29 → ⊥) → (r.lent ≡ u) × (r.out ≡ out)

  row_leaves_lem : (i : ℕ) → Leaves (takes_at u out i d)
  unfolding takes_at
  row_leaves_lem i =
      test (is_next (next_word (words i)) (number_of d))
      (λ y. rw y (test (is_last (size_word (words i)) (number_of d)) (λ l. rw l (λ z x. absurd (z refl))) (λ l. rw l (λ z x. absurd (z refl)))))
      (λ f. rw f (λ z x. absurd (x refl)))

  abbrev Stays : Received → Type 0
  Stays r = r.answer.detail ≡ 0 → r.out ≡ out

  row_stays : (i : ℕ) → Stays (takes_at u out i d)
  unfolding takes_at
  row_stays i =
      test (is_next (next_word (words i)) (number_of d))
      (λ y. rw y (test (is_last (size_word (words i)) (number_of d))
      (λ l. rw l (ap (λ (k : ℕ). splice out 0 (take k ((session_in (row_of u i)).bytes ++ seven_of d)))))
      (λ l. rw l (λ e. refl))))
      (λ f. rw f (λ e. refl))

  module _ (id len : ℕ) where
    pub packet_list : one_of (arrived u out id len d).answer.number (0 ∷ 28 ∷ 29 ∷ 1 ∷ 2 ∷ 3 ∷ []) ≡ true
    unfolding arrived
    packet_list =
        in_either _ (takes u out (holder_in (fields_of id)) d).answer.number (0 ∷ 28 ∷ 29 ∷ []) (1 ∷ 2 ∷ 3 ∷ [])
        (from_list (λ n. n) (λ (r : Received). r.answer.number) (λ n. noted (briefly n) u out) (λ n. refl) (served_tests packet_pgn id len (fields_of id)) (takes u out (holder_in (fields_of id)) d))
        (by_row (λ (r : Received). one_of r.answer.number (0 ∷ 28 ∷ 29 ∷ []) ≡ true) (holder_in (fields_of id)) refl row_list)

    -- "no other refusal changes anything"
    pub packet_leaves : Leaves (arrived u out id len d)
    unfolding arrived
    packet_leaves =
        each_way Leaves (λ n. noted (briefly n) u out) (served_tests packet_pgn id len (fields_of id)) (takes u out (holder_in (fields_of id)) d) (λ n z x. (refl, refl))
        (by_row Leaves (holder_in (fields_of id)) (λ z x. (refl, refl)) row_leaves_lem)

    -- "before that the buffer is untouched"
    pub buffer_stays : Stays (arrived u out id len d)
    unfolding arrived
    buffer_stays =
        each_way Stays (λ n. noted (briefly n) u out) (served_tests packet_pgn id len (fields_of id)) (takes u out (holder_in (fields_of id)) d) (λ n e. refl)
        (by_row Stays (holder_in (fields_of id)) (λ e. refl) row_stays)
