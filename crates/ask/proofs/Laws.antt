-- What the answers of pack, read and find tell, on any map and with any dictionary: when each is refused, that packing and reading undo each
-- other, and where the bits stand. Assumes nothing.
use Prim.Native.Nat.{ℕ, suc, ◌*◌, ◌/◌, ◌%◌, ◌≤◌, ◌<◌}
use mathlib.Core.Path.{◌≡◌, refl, sym, ap, ◌∙◌}
use mathlib.Core.Bool.{true, false, not, ◌||◌}
use mathlib.Core.List.{List, [], ◌∷◌, ◌++◌}
use native.Mathlib.Decide.{dec_lt}
use native.Mathlib.Omega.{arith}
use borrow.Author.Tests.{eq-eqb, ne_eqb, lt-ltb, le-ltb, eqb-true, ltb-false, not-false, not-true}
use lib.Dec.{T, eqb, ltb}
use lib.ListN.{length, get_or, take, drop, get_or-append}
use lib.Seq.{take_at, drop_at}
use Rattle.answers.specs.Answers.{Said, plain, done, unusable, Outcome, outcome}
use Rattle.answers.specs.Tests.{Test, ◌when◌, in_order}
use Rattle.answers.proofs.Cases.{same_answer}
use Rattle.answers.proofs.Tests.{none_gives, only_rest, only_at, leaving, leaves}
use Rattle.bits.specs.Bits.{bit, bit_at, read_number}
use Rattle.places.specs.Place.{bit_place, assigned, Apart}
use Rattle.payload.specs.Payload.{packed, read_all, filled, Fit}
use Rattle.payload.specs.Calls.{too_wide_in}
use Rattle.states.specs.States.{states_of}
use Rattle.words.proofs.Lowest.{neither, lowest-at, lowest_none}
use Rattle.bits.proofs.Bits.{from_lt, bit_at_lt}
use Rattle.words.proofs.Lists.{length-tabulate, get_tabulate}
use Rattle.payload.proofs.Fit.{none_wide, fit_none_wide}
use Rattle.payload.proofs.Laws.{packed-at, packed-other, packed-length, read_packed, packed_read, read_length}
use Rattle.maps.specs.Maps.{Map}
use Rattle.judge.specs.Judge.{spn_at, judge, usable, count_of, params_of, starts_of, widths_of, length_of}
use Rattle.words.proofs.Tests.{never}
use Rattle.judge.proofs.Judged.{lists_length, usable_sound, usable-apart, usable-length}
use Rattle.ask.specs.declared.Found.{Found}
use Rattle.ask.specs.declared.Parameter.{Parameter}
use Rattle.open.specs.Open.{is_held}
use Rattle.ask.specs.Ask.{key_tests, pack_tests, pack_done, packed_by, Reading, reads, read_tests, read_done, read_by, Finding, found_in, not_found, found_at, find_tests, found_by, position_of, Standing, standing_in}
use Rattle.ask.proofs.Calls.{held-usable, usable-held, pack_bad, read_bad, find_bad}

-- numbers that were read need no more than their widths
read_fit : (ss ws payload : List ℕ) → Fit ss ws (read_all ss ws payload)
unfolding read_all read_number
read_fit ss ws payload = record {
  count = read_length ss ws payload;
  each = λ i l. rw (get_tabulate _ (length ss) i l) (from_lt _ (λ j. bit_at_lt payload _) (get_or ws i 0));
}

abbrev answer_number : Outcome → ℕ
answer_number o = o.answer.number

abbrev reading_number : Reading → ℕ
reading_number r = r.answer.number

-- a payload bit of the first bytes of a buffer
bit-first : (xs ys : List ℕ) (p : ℕ) → p < 8 * length xs → bit_at (xs ++ ys) p ≡ bit_at xs p
unfolding bit_at
bit-first xs ys p l = ap (λ (x : ℕ). bit x (p % 8)) (get_or-append xs ys 0 (p / 8) (omega arith))

module _ (width_of : ℕ → ℕ) (m : Map) where
  abbrev ss : List ℕ
  ss = starts_of width_of m

  abbrev ws : List ℕ
  ws = widths_of width_of m

  -- ---- 12

  -- a map that is held, with a judgement other than 0
  abbrev pub Unusable : Type 0
  Unusable = (is_held m ≡ true) × ((judge width_of m).number ≡ 0 → ⊥)

  -- 12 comes from the test of the judgement alone, whatever is tested after it
  only_12 : {B : Type 0} (number : B → ℕ) (refuse : Said → B) → ((a : Said) → number (refuse a) ≡ a.number) → (later : List (Test Said)) (rest : B)
      → number (in_order refuse (key_tests width_of m ++ later) rest) ≡ 12 → T (none_gives 12 later) → T (not (eqb (number rest) 12)) → Unusable
  only_12 number refuse same later rest e l r =
      let (n, y) = only_at number refuse same 12 (unusable (judge width_of m) when not (usable width_of m)) later rest (plain 11 when not (is_held m) ∷ []) e tt l r in
      let h = not-false _ n.0 in
      (h, λ z. never (held-usable width_of m h z) (not-true _ y))

  -- pack answers 12 exactly where the map is held and its judgement isn't 0
  pub pack_12 : (numbers out : List ℕ) → ((packed_by width_of m numbers out).answer.number ≡ 12 → Unusable)
      × (Unusable → packed_by width_of m numbers out ≡ outcome (unusable (judge width_of m)) out)
  unfolding packed_by
  pack_12 numbers out = (
    λ e. only_12 answer_number (λ a. outcome a out) (λ a. refl) (pack_tests width_of m numbers out) (pack_done width_of m numbers out) e tt tt,
    λ u. pack_bad width_of m u.0 u.1 numbers out,
  )

  -- and so does read
  pub read_12 : (payload room states : List ℕ) → ((read_by width_of m payload room states).answer.number ≡ 12 → Unusable)
      × (Unusable → read_by width_of m payload room states ≡ reads (unusable (judge width_of m)) room states)
  unfolding read_by
  read_12 payload room states = (
    λ e. only_12 reading_number (λ a. reads a room states) (λ a. refl) (read_tests width_of m payload room states) (read_done width_of m payload room states) e tt tt,
    λ u. read_bad width_of m u.0 u.1 payload room states,
  )

  -- and find
  pub find_12 : (spn : ℕ) → ((found_by width_of m spn).answer.number ≡ 12 → Unusable) × (Unusable → found_by width_of m spn ≡ not_found (unusable (judge width_of m)))
  unfolding found_by
  find_12 spn = (
    λ e. only_12 (λ (f : Finding). f.answer.number) not_found (λ a. refl) (find_tests width_of m spn)
        (found_at (position_of width_of m spn) (params_of width_of m (position_of width_of m spn))) e tt tt,
    λ u. find_bad width_of m u.0 u.1 spn,
  )

  -- ---- answer 0

  -- packing is done exactly where the map is usable, the numbers are n and fit, and the buffer has L bytes
  pub pack_done_lem : (numbers out : List ℕ) → usable width_of m ≡ true → Fit ss ws numbers → length_of width_of m ≤ length out
      → packed_by width_of m numbers out ≡ outcome (done (length_of width_of m)) (packed ss ws numbers ++ drop (length_of width_of m) out)
  unfolding packed_by
  pack_done_lem numbers out u f l =
      rw (usable-held width_of m u, u, eq-eqb (length numbers) (count_of m) (f.count ∙ (lists_length width_of m).1), le-ltb (length out) (length_of width_of m) l, fit_none_wide ss ws numbers f)

  pub done_packs : (numbers out : List ℕ) → (packed_by width_of m numbers out).answer.number ≡ 0
      → (usable width_of m ≡ true) × Fit ss ws numbers × (length_of width_of m ≤ length out)
  unfolding packed_by
  done_packs numbers out e =
      let (_, (u, (a, (b, _)))) = (only_rest answer_number (λ a. outcome a out) (λ a. refl) 0 (key_tests width_of m ++ pack_tests width_of m numbers out) (pack_done width_of m numbers out) tt e).0 in
      let (c, d) = neither (not (eqb (length numbers) (count_of m))) (ltb (length out) (length_of width_of m)) a in
      let n = eqb-true (length numbers) (count_of m) (not-false _ c) in
      (not-false _ u, none_wide ss ws numbers (n ∙ sym (lists_length width_of m).1) (omega (arith, ltb-false 0 (too_wide_in ws numbers) b)), ltb-false _ _ d)

  -- reading is done exactly where the map is usable, the payload has L bytes, and there is room for n numbers and n states
  pub read_done_lem : (payload room states : List ℕ) → usable width_of m ≡ true → length payload ≡ length_of width_of m → count_of m ≤ length room → count_of m ≤ length states
      → read_by width_of m payload room states ≡ read_done width_of m payload room states
  unfolding read_by
  read_done_lem payload room states u e l k =
      rw (usable-held width_of m u, u, eq-eqb (length payload) (length_of width_of m) e, le-ltb (length room) (count_of m) l, le-ltb (length states) (count_of m) k)

  pub done-reads : (payload room states : List ℕ) → (read_by width_of m payload room states).answer.number ≡ 0
      → (usable width_of m ≡ true) × (length payload ≡ length_of width_of m) × (count_of m ≤ length room) × (count_of m ≤ length states)
  unfolding read_by
  done-reads payload room states e =
      let (_, (u, (a, _))) = (only_rest reading_number (λ a. reads a room states) (λ a. refl) 0 (key_tests width_of m ++ read_tests width_of m payload room states) (read_done width_of m payload room states) tt e).0 in
      let (b, s) = neither (not (eqb (length payload) (length_of width_of m)) || ltb (length room) (count_of m)) (ltb (length states) (count_of m)) a in
      let (c, d) = neither (not (eqb (length payload) (length_of width_of m))) (ltb (length room) (count_of m)) b in
      (not-false _ u, eqb-true (length payload) (length_of width_of m) (not-false _ c), ltb-false _ _ d, ltb-false _ _ s)

  -- "None" of a refusal: the buffer and the room hold what they held
  pub pack_refused : (numbers out : List ℕ) → ((packed_by width_of m numbers out).answer.number ≡ 0 → ⊥) → (packed_by width_of m numbers out).memory ≡ out
  unfolding packed_by
  pack_refused numbers out n = leaves (key_tests width_of m ++ pack_tests width_of m numbers out) out (pack_done width_of m numbers out) n

  pub read_refused : (payload room states : List ℕ) → ((read_by width_of m payload room states).answer.number ≡ 0 → ⊥)
      → ((read_by width_of m payload room states).numbers ≡ room) × ((read_by width_of m payload room states).states ≡ states)
  unfolding read_by
  read_refused payload room states n =
      let ts = key_tests width_of m ++ read_tests width_of m payload room states in
      let rest = read_done width_of m payload room states in (
        leaving reading_number (λ (r : Reading). r.numbers) (λ a. reads a room states) room (λ a. refl) ts rest n,
        leaving reading_number (λ (r : Reading). r.states) (λ a. reads a room states) states (λ a. refl) ts rest n,
      )

  -- ---- demand 2, on the calls: after packing answered 0
  module _ (numbers out : List ℕ) (e : (packed_by width_of m numbers out).answer.number ≡ 0) where
    its : (usable width_of m ≡ true) × Fit ss ws numbers × (length_of width_of m ≤ length out)
    its = done_packs numbers out e

    apart : Apart ss ws
    apart = usable-apart width_of m its.0

    gives : packed_by width_of m numbers out ≡ outcome (done (length_of width_of m)) (packed ss ws numbers ++ drop (length_of width_of m) out)
    gives = pack_done_lem numbers out its.0 its.1 its.2

    -- its detail is L, from 8 to 1,785
    pub pack_size : ((packed_by width_of m numbers out).answer ≡ done (length_of width_of m)) × (8 ≤ length_of width_of m) × (length_of width_of m ≤ 1785)
    pack_size = let (a, b) = usable-length width_of m its.0 in (ap (λ (o : Outcome). o.answer) gives, a, b)

    -- bit k of the number at index i stands at its place
    pub pack_bit : (i k : ℕ) → i < count_of m → k < get_or ws i 0 → bit_at (packed_by width_of m numbers out).memory (bit_place ss ws i k) ≡ bit (get_or numbers i 0) k
    pack_bit i k l w =
        let h : i < length ss = rw (lists_length width_of m).1 l in
        ap (λ (o : Outcome). bit_at o.memory (bit_place ss ws i k)) gives
        ∙ bit-first (packed ss ws numbers) _ _ (rw (packed-length ss ws numbers) (apart.inside i k h w))
        ∙ packed-at ss ws numbers apart i k h w

    -- all other bits of the L bytes are 1
    pub pack_other : (p : ℕ) → p < 8 * length_of width_of m → assigned ss ws p ≡ false → bit_at (packed_by width_of m numbers out).memory p ≡ 1
    pack_other p l h =
        ap (λ (o : Outcome). bit_at o.memory p) gives
        ∙ bit-first (packed ss ws numbers) _ p (rw (packed-length ss ws numbers) l) ∙ packed-other ss ws numbers p l h

    -- bytes past L keep what they held
    pub pack_past : drop (length_of width_of m) (packed_by width_of m numbers out).memory ≡ drop (length_of width_of m) out
    pack_past = ap (λ (o : Outcome). drop (length_of width_of m) o.memory) gives ∙ drop_at (packed ss ws numbers) _ (length_of width_of m) (packed-length ss ws numbers)

    -- reading the L bytes gives the numbers, each with its state
    pub read_back : (room states : List ℕ) → count_of m ≤ length room → count_of m ≤ length states
        → read_by width_of m (take (length_of width_of m) (packed_by width_of m numbers out).memory) room states
        ≡ reads (done (count_of m)) (numbers ++ drop (count_of m) room) (states_of ws numbers (count_of m) ++ drop (count_of m) states)
    read_back room states l k =
        ap (λ (o : Outcome). read_by width_of m (take (length_of width_of m) o.memory) room states) gives
        ∙ ap (λ (x : List ℕ). read_by width_of m x room states) (take_at (packed ss ws numbers) _ (length_of width_of m) (packed-length ss ws numbers))
        ∙ read_done_lem (packed ss ws numbers) room states its.0 (packed-length ss ws numbers) l k
        ∙ ap (λ (x : List ℕ). reads (done (count_of m)) (x ++ drop (count_of m) room) (states_of ws x (count_of m) ++ drop (count_of m) states)) (read_packed ss ws numbers apart its.1)

  -- after reading answered 0: the numbers that it gave
  module _ (payload room states : List ℕ) (e : (read_by width_of m payload room states).answer.number ≡ 0) where
    abbrev numbers : List ℕ
    numbers = take (count_of m) (read_by width_of m payload room states).numbers

    theirs : (usable width_of m ≡ true) × (length payload ≡ length_of width_of m) × (count_of m ≤ length room) × (count_of m ≤ length states)
    theirs = done-reads payload room states e

    left : read_by width_of m payload room states ≡ read_done width_of m payload room states
    left = read_done_lem payload room states theirs.0 theirs.1 theirs.2 theirs.3

    many : length (read_all ss ws payload) ≡ count_of m
    many = read_length ss ws payload ∙ (lists_length width_of m).1

    numbers_are : numbers ≡ read_all ss ws payload
    numbers_are = ap (λ (r : Reading). take (count_of m) r.numbers) left ∙ take_at (read_all ss ws payload) _ (count_of m) many

    fit : Fit ss ws numbers
    fit = rw numbers_are (read_fit ss ws payload)

    -- the states are those of the numbers
    pub read_states : take (count_of m) (read_by width_of m payload room states).states ≡ states_of ws (take (count_of m) (read_by width_of m payload room states).numbers) (count_of m)
    read_states =
        ap (λ (r : Reading). take (count_of m) r.states) left
        ∙ take_at (states_of ws (read_all ss ws payload) (count_of m)) _ (count_of m) (length-tabulate _ (count_of m))
        ∙ ap (λ (x : List ℕ). states_of ws x (count_of m)) (sym numbers_are)

    -- further places keep what they held
    pub read_past : (drop (count_of m) (read_by width_of m payload room states).numbers ≡ drop (count_of m) room)
        × (drop (count_of m) (read_by width_of m payload room states).states ≡ drop (count_of m) states)
    read_past = (
      ap (λ (r : Reading). drop (count_of m) r.numbers) left ∙ drop_at (read_all ss ws payload) _ (count_of m) many,
      ap (λ (r : Reading). drop (count_of m) r.states) left
          ∙ drop_at (states_of ws (read_all ss ws payload) (count_of m)) _ (count_of m) (length-tabulate _ (count_of m)),
    )

    -- they never make packing answer 14, whatever the buffer
    pub never_14 : (out : List ℕ) → (packed_by width_of m (take (count_of m) (read_by width_of m payload room states).numbers) out).answer.number ≡ 14 → ⊥
    unfolding packed_by
    never_14 out q =
        elim (dec_lt (length out) (length_of width_of m)) [
          | yes l ↦ let z : answer_number (packed_by width_of m numbers out) ≡ 13 = rw (usable-held width_of m theirs.0, theirs.0, eq-eqb (length numbers) (count_of m) (fit.count ∙ (lists_length width_of m).1), lt-ltb (length out) (length_of width_of m) l) in omega (arith, z, q)
          | no l ↦ let z = ap answer_number (pack_done_lem numbers out theirs.0 fit (omega arith)) in omega (arith, z, q)
        ]

    -- and packing them gives the payload with its unassigned bits set to 1
    pub pack_back : (out : List ℕ) → length_of width_of m ≤ length out
        → packed_by width_of m (take (count_of m) (read_by width_of m payload room states).numbers) out
        ≡ outcome (done (length_of width_of m)) (filled ss ws payload ++ drop (length_of width_of m) out)
    pack_back out l =
        pack_done_lem numbers out theirs.0 fit l
        ∙ ap (λ (x : List ℕ). outcome (done (length_of width_of m)) (packed ss ws x ++ drop (length_of width_of m) out)) numbers_are
        ∙ ap (λ (x : List ℕ). outcome (done (length_of width_of m)) (x ++ drop (length_of width_of m) out)) (packed_read ss ws payload theirs.1)

  -- ---- finding in a usable map
  module _ (u : usable width_of m ≡ true) (spn : ℕ) where
    -- whichever position has the SPN is the one found, with its start and width: a usable map has no SPN twice
    pub find_one : (i : ℕ) → i < count_of m → spn_at (params_of width_of m) i ≡ spn → found_by width_of m spn ≡ found_at (suc i) (params_of width_of m (suc i))
    unfolding found_by position_of
    find_one i l e =
        rw (
          usable-held width_of m u,
          u,
          lowest-at (λ k. eqb (spn_at (params_of width_of m) k) spn) (count_of m) i l
              (λ k h. ne_eqb _ _ (λ q. (usable_sound width_of m u).once k i h l (q ∙ sym e))) (eq-eqb _ _ e),
          ne_eqb (suc i) 0 (omega arith),
        )

    -- where no position has it, it is not found
    pub find_no : ((i : ℕ) → i < count_of m → spn_at (params_of width_of m) i ≡ spn → ⊥) → found_by width_of m spn ≡ not_found (plain 18)
    unfolding found_by position_of
    find_no n =
        rw (usable-held width_of m u, u, lowest_none (λ k. eqb (spn_at (params_of width_of m) k) spn) (count_of m) (λ i l. ne_eqb _ _ (n i l)))

-- one finding in numbers, one value of the code's struct
pub same_found : (f g : Found) → found_in f ≡ found_in g → f ≡ g
same_found f g e =
    let a = same_answer f.answer g.answer (ap (λ (x : Finding). x.answer) e) in
    λ i. record { answer = a i; position = (e i).position; start = (e i).start; width = (e i).width }

-- and one of the struct of what stands at a position
pub same_parameter : (p q : Parameter) → standing_in p ≡ standing_in q → p ≡ q
same_parameter p q e =
    let a = same_answer p.answer q.answer (ap (λ (x : Standing). x.answer) e) in
    λ i. record { answer = a i; spn = (e i).spn; start = (e i).start; width = (e i).width }
