-- Records laid into a log: a part that was lent from a byte on and came back, one record behind another, and the test of the room. Assumes nothing.
use Prim.Native.Nat.{ℕ, ◌+◌, ◌-◌, ◌*◌, ◌/◌, ◌≤◌, ◌<◌}
use native.Mathlib.Nat.{zero-add}
use native.Mathlib.Omega.{arith}
use mathlib.Core.Path.{◌≡◌, refl, sym, ap, ◌∙◌}
use mathlib.Core.Bool.{true, false, cond}
use mathlib.Core.List.{List, [], ◌++◌, append-nil}
use borrow.Author.Tests.{leb-true, le-leb, lt-leb, ltb-true, ltb-false, lt-ltb}
use lib.Dec.{leb, ltb}
use lib.ListN.{length, take, drop, length-drop, drop_of_length-le, take-append-drop}
use lib.Seq.{take_all, drop-drop}
use Rattle.words.proofs.Tests.{test, same_test}
use Rattle.answers.specs.Answers.{Said, plain, done, Outcome, outcome}
use Rattle.splice.specs.Splice.{fits, laid}
use Rattle.text.specs.Text.{Page, page, put, put_all}
use Rattle.text.proofs.Pages.{put_there, put-not}
use Rattle.text.proofs.Pieces.{pieces_laid}
use Rattle.message.specs.declared.Message.{Message}
use Rattle.record.specs.Record.{written}
use Rattle.written.specs.Written.{id_of, data_of, record_of, log_of}
use Rattle.written.proofs.Records.{record_long, log_long}
use Rattle.locate.specs.Parts.{pieces_of, laid_out}

-- ---- a part that runs to the end of the log

module _ (l : List ℕ) (at : ℕ) (inside : at ≤ length l) where
  part_is : take (length l - at) (drop at l) ≡ drop at l
  part_is = take_all (length l - at) (drop at l) (omega (arith, length-drop at l))

  none_behind : drop (length l - at) (drop at l) ≡ []
  none_behind = drop_of_length-le (drop at l) {i = length l - at} (omega (arith, length-drop at l))

  module _ (x : List ℕ) where
    -- what has room there has room in the log
    fits_part : fits (take (length l - at) (drop at l)) 0 x ≡ fits l at x
    fits_part =
        rw part_is
        (same_test (leb (0 + length x) (length (drop at l))) (leb (at + length x) (length l))
        (λ a. le-leb (at + length x) (length l) (omega (arith, leb-true (0 + length x) (length (drop at l)) a, length-drop at l)))
        (λ a. le-leb (0 + length x) (length (drop at l)) (omega (arith, leb-true (at + length x) (length l) a, length-drop at l))))

    -- the part comes back as y: x is laid into the log
    pub came_back : (y : List ℕ) → y ≡ laid (take (length l - at) (drop at l)) 0 x → take at l ++ (y ++ drop (length l - at) (drop at l)) ≡ laid l at x
    came_back y e =
        rw none_behind
        (ap (λ (z : List ℕ). take at l ++ z) (append-nil y ∙ e)
        ∙ test (fits l at x)
        (λ b. rw (fits_part, b, part_is, zero-add (length x), drop-drop (length x) at l))
        (λ b. rw (fits_part, b, part_is) (take-append-drop at l)))

-- ---- the record of a message

module _ (l : List ℕ) (at : ℕ) (inside : at ≤ length l) (m : Message) (a : Said) (y : List ℕ)
    (e : outcome a y ≡ written (take (length l - at) (drop at l)) (id_of m.key) 8 (data_of m)) where
  number_is : a.number ≡ cond (fits l at (record_of m)) 0 13
  unfolding written record_of
  number_is = ap (λ (o : Outcome). o.answer.number) e ∙ rw (fits_part l at inside (record_of m))

  after_is : take at l ++ (y ++ drop (length l - at) (drop at l)) ≡ laid l at (record_of m)
  unfolding written record_of
  after_is = came_back l at inside (record_of m) y (ap (λ (o : Outcome). o.memory) e)

  -- there was room
  pub record_fits : a.number ≡ 0 → at + 13 ≤ length l
  record_fits z =
      test (fits l at (record_of m)) (λ b. omega (arith, leb-true (at + length (record_of m)) (length l) b, record_long m))
      (λ b. let q : a.number ≡ 13 = rw b at number_is in absurd (omega (arith, q, z)))

  pub record_laid : a.number ≡ 0 → page (at + 13) (take at l ++ (y ++ drop (length l - at) (drop at l))) ≡ put l at (record_of m)
  record_laid z =
      test (fits l at (record_of m))
      (λ b. ap (λ (n : ℕ). page (at + n) (take at l ++ (y ++ drop (length l - at) (drop at l)))) (sym (record_long m)) ∙ put_there l at (record_of m) _ b after_is)
      (λ b. let q : a.number ≡ 13 = rw b at number_is in absurd (omega (arith, q, z)))

  -- there was none
  pub record_not : (a.number ≡ 0 → ⊥) → page at (take at l ++ (y ++ drop (length l - at) (drop at l))) ≡ put l at (record_of m)
  record_not n =
      test (fits l at (record_of m))
      (λ b. let q : a.number ≡ 0 = rw b at number_is in absurd (n q))
      (λ b. put-not l at (record_of m) _ b after_is)

-- ---- the log ends before the record's place

pub beyond : (l : List ℕ) (at : ℕ) (x : List ℕ) → length l < at → page at l ≡ put l at x
unfolding put
beyond l at x h = rw (lt-leb (at + length x) (length l) (omega arith))

-- ---- one piece behind another

-- no piece
pub nothing_laid : (p : Page) → p ≡ put_all p []
unfolding put_all
nothing_laid p = refl

-- ---- room for so many records, without a number that could be too large

pub room-short : (size start count : ℕ) → size < start → true ≡ ltb size (start + 13 * count)
room-short size start count h = sym (lt-ltb size (start + 13 * count) (omega arith))

pub room-long : (size start count : ℕ) → start ≤ size → ltb ((size - start) / 13) count ≡ ltb size (start + 13 * count)
room-long size start count h =
    same_test (ltb ((size - start) / 13) count) (ltb size (start + 13 * count))
    (λ a. let q = ltb-true ((size - start) / 13) count a in lt-ltb size (start + 13 * count) (omega arith))
    (λ a. let q = ltb-true size (start + 13 * count) a in lt-ltb ((size - start) / 13) count (omega arith))

-- ---- the two answers of a call that has counted

module _ (ms : List Message) (l : List ℕ) (start count : ℕ) (its : count ≡ length ms) (a : Said) where
  -- too short
  pub out_of_room : ltb (length l) (start + 13 * count) ≡ true → a ≡ plain 13 → outcome a l ≡ laid_out ms l start
  unfolding laid_out
  out_of_room t e = let q : ltb (length l) (start + 13 * length ms) ≡ true = rw its at t in rw (q, e)

  -- all of them are laid
  pub in_room : ltb (length l) (start + 13 * count) ≡ false → a ≡ done count → (p : Page) → p ≡ put_all (page start l) (pieces_of ms) → outcome a p.bytes ≡ laid_out ms l start
  unfolding laid_out
  in_room f e p g =
      let q : ltb (length l) (start + 13 * length ms) ≡ false = rw its at f in
      let r : start + length (log_of ms) ≤ length l = omega (arith, ltb-false (length l) (start + 13 * length ms) q, log_long ms) in
      rw (q, e, its) (ap (λ (b : List ℕ). outcome (done (length ms)) b) (ap (λ (x : Page). x.bytes) (g ∙ pieces_laid (pieces_of ms) start l r)))

-- to a request that is not ours
pub no_message : (l : List ℕ) (start : ℕ) (a : Said) → a ≡ cond (ltb (length l) start) (plain 13) (done 0) → outcome a l ≡ laid_out [] l start
no_message l start a e =
    let same : ltb (length l) start ≡ ltb (length l) (start + 13 * 0) = ap (ltb (length l)) (omega arith) in
    test (ltb (length l) (start + 13 * 0))
    (λ t. out_of_room [] l start 0 refl a t (e ∙ rw (same ∙ t)))
    (λ f. in_room [] l start 0 refl a f (e ∙ rw (same ∙ f)) (page start l) (nothing_laid (page start l)))
