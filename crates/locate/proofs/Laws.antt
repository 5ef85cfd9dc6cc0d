-- What the answer to a Parameter Locate tells, on any words and with any dictionary: its numbers, what a refusal leaves, when it is 13, and which bytes of the log
-- it changes. Assumes nothing.
use Prim.Native.Nat.{ℕ, ◌+◌, ◌*◌, ◌≤◌, ◌<◌}
use native.Mathlib.Omega.{arith}
use mathlib.Core.Path.{◌≡◌, refl, sym, ap, ◌∙◌}
use mathlib.Core.Logic.{◌↔◌}
use mathlib.Core.Bool.{Bool, true, false, cond}
use mathlib.Core.List.{List, [], ◌∷◌, ◌++◌, map, flatten, append_assoc}
use borrow.Author.Tests.{ltb-true, ltb-false, lt-ltb, le-ltb}
use lib.Dec.{ltb}
use lib.ListN.{length, take, drop}
use lib.Seq.{take_at, drop_at, drop-drop, length-take-le}
use Rattle.words.proofs.Tests.{never}
use Rattle.answers.specs.Answers.{plain, done, Outcome, outcome}
use Rattle.answers.specs.Tests.{◌when◌}
use Rattle.answers.proofs.Tests.{None, one_of, from-answers, leaves, only_rest, only_at, stops_at, all_pass}
use Rattle.frame.specs.Frame.{fields_of, destination_of}
use Rattle.message.specs.declared.Key.{Key}
use Rattle.message.specs.declared.Message.{Message}
use Rattle.splice.specs.Splice.{splice}
use Rattle.text.proofs.Pieces.{splice_none}
use Rattle.maps.proofs.Tests.{key-refl}
use Rattle.history.proofs.Keys.{has}
use Rattle.keyrow.specs.Row.{InBytes}
use Rattle.lookup.specs.View.{map_in}
use Rattle.written.specs.Written.{record_of, log_of}
use Rattle.written.proofs.Records.{log_long, log_more}
use Rattle.locate.specs.Locate.{request_tests, spn_asked, is_ours, tells, placement, located_keys, answers_to, room_tests, lay_done, located_by}
use Rattle.locate.proofs.Keys.{exactly, of_bytes}

-- ---- bytes laid from a byte on

module _ (l : List ℕ) (at : ℕ) (x : List ℕ) (room : at + length x ≤ length l) where
  pub before_stays : take at (splice l at x) ≡ take at l
  before_stays = take_at (take at l) _ at (length-take-le at l (omega arith))

  pub laid_there : take (length x) (drop at (splice l at x)) ≡ x
  laid_there = ap (take (length x)) (drop_at (take at l) _ at (length-take-le at l (omega arith))) ∙ take_at x _ (length x) refl

  pub behind_stays : drop (at + length x) (splice l at x) ≡ drop (at + length x) l
  behind_stays =
      sym (drop-drop (length x) at (splice l at x))
      ∙ ap (drop (length x)) (drop_at (take at l) _ at (length-take-le at l (omega arith))) ∙ drop_at x _ (length x) refl

module _ (width_of : Key → ℕ → ℕ) (t : List ℕ) (own id len : ℕ) (d log : List ℕ) (start : ℕ) where
  abbrev told : List Message
  told = answers_to width_of t own id d

  -- ---- the numbers

  pub number_list : one_of (located_by width_of t own id len d log start).answer.number (0 ∷ 1 ∷ 2 ∷ 3 ∷ 24 ∷ 13 ∷ []) ≡ true
  unfolding located_by
  number_list =
      from-answers (λ (o : Outcome). o.answer.number) (λ a. outcome a log) (λ a. refl) (request_tests id len d ++ room_tests told log start) (lay_done told log start)

  -- "none is then written": a refusal leaves every byte of the log
  pub refusal_leaves : ((located_by width_of t own id len d log start).answer.number ≡ 0 → ⊥) → (located_by width_of t own id len d log start).memory ≡ log
  unfolding located_by
  refusal_leaves n = leaves (request_tests id len d ++ room_tests told log start) log (lay_done told log start) n

  -- 13 exactly where a request passes the tests before it and start plus 13 a message exceeds the log
  pub thirteen : ((located_by width_of t own id len d log start).answer.number ≡ 13) ↔ (None (request_tests id len d) × (length log < start + 13 * length (answers_to width_of t own id d)))
  unfolding located_by
  thirteen = (
    λ e. let (n, y) = only_at (λ (o : Outcome). o.answer.number) (λ a. outcome a log) (λ a. refl) 13 (plain 13 when ltb (length log) (start + 13 * length told)) [] (lay_done told log start) (request_tests id len d) e tt tt tt in
        (n, ltb-true (length log) (start + 13 * length told) y),
    λ u. ap (λ (o : Outcome). o.answer.number)
        (stops_at (λ a. outcome a log) (request_tests id len d) (plain 13 when ltb (length log) (start + 13 * length told)) [] (lay_done told log start) u.0 (lt-ltb (length log) (start + 13 * length told) u.1)),
  )

  -- 0 exactly where none of them applies; the detail is the count
  pub done_when : ((located_by width_of t own id len d log start).answer.number ≡ 0) ↔ (None (request_tests id len d) × (start + 13 * length (answers_to width_of t own id d) ≤ length log))
  unfolding located_by
  done_when = (
    λ e. let (a, (b, (c, (g, (r, _))))) = (only_rest (λ (o : Outcome). o.answer.number) (λ a. outcome a log) (λ a. refl) 0 (request_tests id len d ++ room_tests told log start) (lay_done told log start) tt e).0 in
        ((a, (b, (c, (g, tt)))), ltb-false (length log) (start + 13 * length told) r),
    λ u. ap (λ (o : Outcome). o.answer.number) (is-done u),
  )
    where
      is-done : None (request_tests id len d) × (start + 13 * length told ≤ length log)
          → located_by width_of t own id len d log start ≡ lay_done told log start
      is-done u =
          all_pass (λ a. outcome a log) (request_tests id len d ++ room_tests told log start) (lay_done told log start)
          (u.0.0, (u.0.1.0, (u.0.1.1.0, (u.0.1.1.1.0, (le-ltb (length log) (start + 13 * length told) u.1, tt)))))

  -- ---- after answer 0

  module _ (done₀ : (located_by width_of t own id len d log start).answer.number ≡ 0) where
    gives : located_by width_of t own id len d log start ≡ lay_done told log start
    unfolding located_by
    gives =
        let (n, r) = only_rest (λ (o : Outcome). o.answer.number) (λ a. outcome a log) (λ a. refl) 0 (request_tests id len d ++ room_tests told log start) (lay_done told log start) tt done₀ in
        all_pass (λ a. outcome a log) (request_tests id len d ++ room_tests told log start) (lay_done told log start) n

    room : start + length (log_of told) ≤ length log
    room = omega (arith, (done_when.0 done₀).1, log_long told)

    -- "Answer 0 carries the count of messages"
    pub counted : (located_by width_of t own id len d log start).answer ≡ done (length (answers_to width_of t own id d))
    counted = ap (λ (o : Outcome). o.answer) gives

    -- "laid into the caller's frame log starting at a given byte": their records, one behind another
    pub records : take (13 * length (answers_to width_of t own id d)) (drop start (located_by width_of t own id len d log start).memory) ≡ log_of (answers_to width_of t own id d)
    records = rw (gives, ← (log_long told)) (laid_there log start (log_of told) room)

    -- "and nowhere else"
    pub before : take start (located_by width_of t own id len d log start).memory ≡ take start log
    before = rw gives (before_stays log start (log_of told) room)

    pub behind : drop (start + 13 * length (answers_to width_of t own id d)) (located_by width_of t own id len d log start).memory ≡ drop (start + 13 * length (answers_to width_of t own id d)) log
    behind = rw (gives, ← (log_long told)) (behind_stays log start (log_of told) room)

    -- the record of each message stands behind those of the messages before it
    pub record_at_lem : (xs ys : List Message) (m : Message) → answers_to width_of t own id d ≡ xs ++ (m ∷ ys)
        → drop (start + 13 * length xs) (located_by width_of t own id len d log start).memory ≡ record_of m ++ (log_of ys ++ drop (start + length (log_of (answers_to width_of t own id d))) log)
    unfolding flatten
    record_at_lem xs ys m e =
        let parts : log_of told ≡ log_of xs ++ (record_of m ++ log_of ys) = ap log_of e ∙ log_more xs (m ∷ ys) in
        ap (λ (o : Outcome). drop (start + 13 * length xs) o.memory) gives
        ∙ sym (drop-drop (13 * length xs) start (splice log start (log_of told)))
        ∙ ap (drop (13 * length xs)) (drop_at (take start log) _ start (length-take-le start log (omega (arith, room))))
        ∙ ap (λ (l : List ℕ). drop (13 * length xs) (l ++ drop (start + length (log_of told)) log)) parts
        ∙ ap (drop (13 * length xs)) (append_assoc (log_of xs) (record_of m ++ log_of ys) (drop (start + length (log_of told)) log))
        ∙ drop_at (log_of xs) _ (13 * length xs) (log_long xs)
        ∙ append_assoc (record_of m) (log_of ys) (drop (start + length (log_of told)) log)

  -- ---- "An SPN nobody sends, or a request to another single address, gives no message"

  pub elsewhere : is_ours own (destination_of (fields_of id)) ≡ false → answers_to width_of t own id d ≡ []
  elsewhere f = rw f

  pub nobody : ((k : Key) → InBytes k → tells (width_of k) own (spn_asked d) k (map_in t k) ≡ false) → answers_to width_of t own id d ≡ []
  nobody f = rw none_there (go (is_ours own (destination_of (fields_of id))))
    where
      empty : (ks : List Key) → ((k : Key) → has k ks ≡ true → has k ks ≡ false) → ks ≡ []
      empty [] u = refl
      empty (k ∷ ks) u = let y : has k (k ∷ ks) ≡ true = rw (key-refl k) in never y (u k y)

      none_there : located_keys width_of t own (spn_asked d) ≡ []
      none_there = empty (located_keys width_of t own (spn_asked d)) (λ k y. let b = of_bytes width_of t own (spn_asked d) k y in exactly width_of t own (spn_asked d) k b ∙ f k b)

      go : (b : Bool) → cond b (map (λ k. placement (width_of k) (spn_asked d) k (map_in t k)) []) [] ≡ []
      go true = refl
      go false = refl

  -- then every byte stays, and the count is 0
  pub none_told : answers_to width_of t own id d ≡ [] → None (request_tests id len d) → start ≤ length log → located_by width_of t own id len d log start ≡ outcome (done 0) log
  unfolding flatten
  none_told e n l =
      let z : (located_by width_of t own id len d log start).answer.number ≡ 0 = done_when.1 (n, rw e (omega arith)) in
      gives z ∙ rw (e, splice_none log start)
