-- THE THREE DEMANDS, over what the calls promise. Each call's promise is one equation for its answer and the memory lent to it with a total definition, on
-- every input: learnt, forgotten, edited, empty_table, feeding, judged_by, packed_by, read_by, found_by, stands_by, finished, located_by, commanded, decided. The laws below are
-- about these definitions, so they hold of the calls. No call on the table is lent the filters and none on the filters the table.
--
-- Demand 1: the numbers of each call, what a refusal leaves, what answer 10 changes.
-- Demand 2: when a map is usable; when packing and reading are done; the bits. Of any map, with any dictionary: those of the two editions among them.
-- Demand 3: for any run of calls from an empty table (specs/Calls.antt): frames with any identifier, length and bytes, forgets of any key, editions of any key, logs fed in
-- any chunks, emptying, loads of any image, and calls that only read; and for any run of calls on fresh filters. (What 02 asks of editions: Edited.antt; of images: Saved.antt.)
--
-- Assumes nothing. `Carried` and `InBytes` say only that bytes are bytes, and `length t ≡ table_words` that a table has its length: what a call's types already say
-- of its arguments.
use Prim.Native.Nat.{ℕ, ◌+◌, ◌*◌, ◌≤◌, ◌<◌}
use mathlib.Core.Path.{◌≡◌, refl, sym, ap, ◌∙◌}
use mathlib.Core.Logic.{◌⊎◌, ◌↔◌, ⊎_elim}
use mathlib.Core.Bool.{Bool, true, false, cond, ◌||◌}
use mathlib.Core.List.{List, [], ◌∷◌, ◌++◌}
use mathlib.Core.Option.{Option, none, some}
use lib.Dec.{eqb, ltb}
use lib.ListN.{length, take, drop, get_or, set}
use native.Mathlib.Omega.{arith}
use Rattle.words.proofs.Tests.{test, never}
use Rattle.answers.specs.Answers.{at, plain, done, Outcome, outcome}
use Rattle.answers.proofs.Tests.{one_of, from-answers, from-numbers}
use Rattle.frame.specs.Frame.{fields_of}
use Rattle.message.specs.declared.Key.{Key}
use Rattle.message.specs.declared.Message.{Message}
use Rattle.message.proofs.WellFormed.{at-most_eight}
use Rattle.message.specs.Message.{wire_of, frame_tests, data_tests, heard}
use Rattle.dictionary.specs.Dictionary.{width_by}
use Rattle.bits.specs.Bits.{bit, bit_at}
use Rattle.places.specs.Place.{bit_place, assigned}
use Rattle.payload.specs.Payload.{filled, Fit}
use Rattle.states.specs.States.{states_of}
use Rattle.maps.specs.Maps.{Map, map_of, SameMembers}
use Rattle.maps.proofs.Maps.{same_map}
use Rattle.judge.specs.Judge.{judge, usable, count_of, starts_of, widths_of, length_of}
use Rattle.judge.specs.Usable.{Usable, rule_list, FirstApplies}
use Rattle.judge.proofs.Exactly.{usable_exactly, judged_exactly}
use Rattle.history.specs.History.{most_keys, Learn, Forget, Edition, since, is_edition, answer, kept, set_of, edition_of, Few}
use Rattle.history.specs.Frames.{frame_answer, heard_answer}
use Rattle.history.proofs.Same.{same_answer, same_empty}
use Rattle.keyrow.specs.Row.{row_words, key_number, InBytes}
use Rattle.keyrow.specs.View.{with_edition, edited_row}
use Rattle.lookup.specs.Layout.{table_words, row_of, slot_of}
use Rattle.lookup.specs.View.{map_in, edition_in}
use Rattle.table.specs.Learn.{taught, learnt}
use Rattle.table.specs.Layout.{put_row}
use Rattle.table.specs.Forget.{forgotten}
use Rattle.edition.specs.Edition.{edition_tests, edited}
use Rattle.edition.proofs.Edited as edition
use Rattle.learned.proofs.Editions.{edition-is}
use Rattle.learned.proofs.Refusals as refusals
use Rattle.learned.proofs.Theorem as theorem
use Rattle.open.specs.Open.{is_held, judged_by, width_for}
use Rattle.ask.specs.Ask.{key_tests, pack_tests, pack_done, packed_by, Reading, reads, read_tests, read_done, read_by, Finding, not_found, find_tests, found_at, position_of, found_by, Standing, nowhere, standing, stands_tests, stands_by}
use Rattle.ask.proofs.Laws.{Unusable, pack_12, read_12, find_12, pack_done_lem, done_packs, read_done_lem, done-reads, pack_refused, read_refused, pack_bit, pack_other, pack_past, read_back, read_states, never_14, pack_back}
use Rattle.feeding.specs.declared.Tally.{Tally}
use Rattle.listing.specs.Page.{page_of, finished}
use Rattle.splice.specs.Splice.{fits}
use Rattle.locate.specs.Locate.{located_by}
use Rattle.locate.proofs.Laws.{number_list, refusal_leaves}
use Rattle.judge.specs.Judge.{params_of}
use Rattle.words.specs.Runs.{only}
use Rattle.pairs.specs.declared.Command.{Command}
use Rattle.pairs.specs.declared.Command.TheVariants.{Add, Delete, Renew}
use Rattle.ports.specs.Filters.{two_ports, pair_row, commanded, decided}
use Rattle.commands.specs.Calls.{PortCall, called, filters_after, answer_of, names_pair, pair_after, since_renew}
use Rattle.commands.proofs.Refusals.{add-answers, delete_answers, renew_answers, decide_answers, refusal_stays, others_stay}
use Rattle.commands.proofs.Commands.{answered, isolated, nothing_before}
use Rattle.demands.specs.Calls.{Call, Frame, run, happened, Carried, AllCarried}
use Rattle.demands.specs.Known.{Known, known_in, known_by}
use Rattle.demands.proofs.Calls.{run_is}

-- ==== Demand 1: "Any frame, command, log or lent buffer gets an answer from a fixed list .. A refusal leaves every table and every lent buffer as found. A
-- contradiction is no refusal: it marks its own message's set and nothing more."

-- ---- the list of each call

-- a longer list has no fewer numbers
more : (n : ℕ) (xs ys : List ℕ) → one_of n xs ≡ true → one_of n (xs ++ ys) ≡ true
more n [] ys e = never e refl
more n (x ∷ xs) ys e = go (eqb n x) (one_of n xs) e (more n xs ys)
  where
    go : (a b : Bool) → (a || b) ≡ true → (b ≡ true → one_of n (xs ++ ys) ≡ true) → (a || one_of n (xs ++ ys)) ≡ true
    go true b e f = refl
    go false b e f = f e

-- a frame: 0 to 10
pub learn_list : (t : List ℕ) → length t ≡ table_words → (id len : ℕ) (d : List ℕ) → one_of (learnt t id len d).answer.number (0 ∷ 1 ∷ 2 ∷ 3 ∷ 4 ∷ 5 ∷ 6 ∷ 7 ∷ 8 ∷ 9 ∷ 10 ∷ []) ≡ true
unfolding learnt heard
learn_list t long id len d = go (heard id len d).message
  where
    refused : one_of (heard id len d).number (0 ∷ 1 ∷ 2 ∷ 3 ∷ 4 ∷ 5 ∷ 6 ∷ 7 ∷ 8 ∷ 9 ∷ 10 ∷ []) ≡ true
    refused = more (heard id len d).number (0 ∷ 1 ∷ 2 ∷ 3 ∷ 4 ∷ 5 ∷ 6 ∷ 7 ∷ 8 ∷ []) (9 ∷ 10 ∷ []) (from-numbers (frame_tests id len (fields_of id) ++ data_tests (wire_of d)) 0)

    go : (o : Option Message) → one_of (taught t (heard id len d).number o).answer.number (0 ∷ 1 ∷ 2 ∷ 3 ∷ 4 ∷ 5 ∷ 6 ∷ 7 ∷ 8 ∷ 9 ∷ 10 ∷ []) ≡ true
    go none = refused
    go (some m) = ⊎_elim (λ e. rw e) (λ u. ⊎_elim (λ e. rw e) (λ e. rw e) u) (refusals.message-numbers t long m)

-- a forget: 0 and 11
pub forget_list : (t : List ℕ) (key : ℕ) → one_of (forgotten t key).answer.number (0 ∷ 11 ∷ []) ≡ true
unfolding forgotten
forget_list t key = test (ltb (slot_of t key) most_keys) (λ y. rw y) (λ n. rw n)

-- an edition: 0, 11 and 27
pub set_list : (t : List ℕ) (key e : ℕ) → one_of (edited t key e).answer.number (0 ∷ 11 ∷ 27 ∷ []) ≡ true
unfolding edited
set_list t key e =
    from-answers (λ (o : Outcome). o.answer.number) (λ a. outcome a t) (λ a. refl) (edition_tests t key e) (outcome (plain 0) (put_row t (slot_of t key) (edited_row (row_of t (slot_of t key)) e)))

module _ (width_of : ℕ → ℕ) (m : Map) where
  -- judging: 0 and 11
  pub judge_list : one_of (judged_by width_of m).number (0 ∷ 11 ∷ []) ≡ true
  unfolding judged_by
  judge_list = test (is_held m) (λ y. rw y) (λ n. rw n)

  -- packing: 0, 11, 12, 13 and 14
  pub pack_list : (numbers out : List ℕ) → one_of (packed_by width_of m numbers out).answer.number (0 ∷ 11 ∷ 12 ∷ 13 ∷ 14 ∷ []) ≡ true
  unfolding packed_by
  pack_list numbers out =
      from-answers (λ (o : Outcome). o.answer.number) (λ a. outcome a out) (λ a. refl) (key_tests width_of m ++ pack_tests width_of m numbers out) (pack_done width_of m numbers out)

  -- reading: 0, 11, 12 and 13
  pub read_list : (payload room states : List ℕ) → one_of (read_by width_of m payload room states).answer.number (0 ∷ 11 ∷ 12 ∷ 13 ∷ []) ≡ true
  unfolding read_by
  read_list payload room states =
      from-answers (λ (r : Reading). r.answer.number) (λ a. reads a room states) (λ a. refl) (key_tests width_of m ++ read_tests width_of m payload room states) (read_done width_of m payload room states)

  -- finding: 0, 11, 12 and 18
  pub find_list : (spn : ℕ) → one_of (found_by width_of m spn).answer.number (0 ∷ 11 ∷ 12 ∷ 18 ∷ []) ≡ true
  unfolding found_by
  find_list spn =
      from-answers (λ (f : Finding). f.answer.number) not_found (λ a. refl) (key_tests width_of m ++ find_tests width_of m spn)
      (found_at (position_of width_of m spn) (params_of width_of m (position_of width_of m spn)))

  -- the parameter at a position: 0, 11 and 18
  pub stands_list : (p : ℕ) → one_of (stands_by width_of m p).answer.number (0 ∷ 11 ∷ 18 ∷ []) ≡ true
  unfolding stands_by
  stands_list p = from-answers (λ (x : Standing). x.answer.number) nowhere (λ a. refl) (stands_tests width_of m p) (standing (params_of width_of m p))

-- the listing: 0 and 13
pub finish_list : (t : List ℕ) (s : Tally) (out : List ℕ) → one_of (finished t s out).answer.number (0 ∷ 13 ∷ []) ≡ true
unfolding finished
finish_list t s out = test (fits out 0 (page_of t s)) (λ y. rw y) (λ n. rw n)

-- answering a Parameter Locate: 0, 1, 2, 3, 24 and 13
pub locate_list : (t : List ℕ) (own id len : ℕ) (d log : List ℕ) (start : ℕ) → one_of (located_by (width_for t) t own id len d log start).answer.number (0 ∷ 1 ∷ 2 ∷ 3 ∷ 24 ∷ 13 ∷ []) ≡ true
locate_list t = number_list (width_for t) t

-- the commands to the filters, and deciding
module _ (w : List ℕ) (long : length w ≡ 408) (from to : ℕ) where
  pub add_list : (pgn : ℕ) → one_of (commanded w from to (Add pgn)).answer.number (0 ∷ 15 ∷ 17 ∷ 16 ∷ []) ≡ true
  add_list = add-answers w long from to

  pub delete_list : (pgn : ℕ) → one_of (commanded w from to (Delete pgn)).answer.number (0 ∷ 15 ∷ 17 ∷ 18 ∷ []) ≡ true
  delete_list = delete_answers w long from to

  pub renew_list : (mode : ℕ) → one_of (commanded w from to (Renew mode)).answer.number (0 ∷ 15 ∷ 19 ∷ []) ≡ true
  renew_list = renew_answers w long from to

  pub decide_list : (id : ℕ) → one_of (decided w from to id).number (0 ∷ 15 ∷ 1 ∷ []) ≡ true
  decide_list = decide_answers w from to

-- ---- a refusal. (Calls that only read are lent the table, or the filters, to read alone: by their types they leave every word.)

-- any answer to a frame but 0 and 10 leaves every word
pub learn_leaves : (t : List ℕ) → length t ≡ table_words → (id len : ℕ) (d : List ℕ) → ((learnt t id len d).answer.number ≡ 0 → ⊥) → ((learnt t id len d).answer.number ≡ 10 → ⊥)
    → (learnt t id len d).memory ≡ t
learn_leaves = refusals.refusal_leaves

-- answer 10 changes the state of its own key's row at most, and no other word
pub learn_marks : (t : List ℕ) → length t ≡ table_words → (id len : ℕ) (d : List ℕ) (m : Message) → (heard id len d).message ≡ some m → (learnt t id len d).answer.number ≡ 10
    → ((learnt t id len d).memory ≡ t) ⊎ ((learnt t id len d).memory ≡ set t (slot_of t (key_number m.key) * row_words) 2)
unfolding learnt
learn_marks t long id len d m e q = rw e (refusals.ten_marks t long m (rw e at q))

-- and 10 is given to well-formed messages alone
pub ten_heard : (t : List ℕ) (id len : ℕ) (d : List ℕ) → (learnt t id len d).answer.number ≡ 10 → (heard id len d).message ≡ none → ⊥
unfolding learnt
ten_heard t id len d q e =
    let z : (heard id len d).number ≡ 10 = rw e at q in
    omega (arith, z, at-most_eight id len d)

pub forget_leaves : (t : List ℕ) (key : ℕ) → ((forgotten t key).answer.number ≡ 0 → ⊥) → (forgotten t key).memory ≡ t
forget_leaves = refusals.eleven_leaves

-- a refused edition leaves every word, and one that is set changes one word of its own key's row, of which one bit (keyrow, Edition.antt)
pub set_leaves : (t : List ℕ) (key e : ℕ) → ((edited t key e).answer.number ≡ 0 → ⊥) → (edited t key e).memory ≡ t
set_leaves = edition.refusal_leaves

pub set-marks : (t : List ℕ) → length t ≡ table_words → (key e : ℕ)
    → ((edited t key e).memory ≡ t) ⊎ ((edited t key e).memory ≡ set t (slot_of t key * row_words + 2) (with_edition (get_or t (slot_of t key * row_words + 2) 0) e))
set-marks = edition.one_word

module _ (width_of : ℕ → ℕ) (m : Map) where
  pub pack_leaves : (numbers out : List ℕ) → ((packed_by width_of m numbers out).answer.number ≡ 0 → ⊥) → (packed_by width_of m numbers out).memory ≡ out
  pack_leaves = pack_refused width_of m

  pub read_leaves : (payload room states : List ℕ) → ((read_by width_of m payload room states).answer.number ≡ 0 → ⊥)
      → ((read_by width_of m payload room states).numbers ≡ room) × ((read_by width_of m payload room states).states ≡ states)
  read_leaves = read_refused width_of m

pub finish_leaves : (t : List ℕ) (s : Tally) (out : List ℕ) → ((finished t s out).answer.number ≡ 0 → ⊥) → (finished t s out).memory ≡ out
unfolding finished
finish_leaves t s out n = test (fits out 0 (page_of t s)) (λ y. absurd (n (rw y))) (λ f. rw f)

pub locate_leaves : (t : List ℕ) (own id len : ℕ) (d log : List ℕ) (start : ℕ) → ((located_by (width_for t) t own id len d log start).answer.number ≡ 0 → ⊥) → (located_by (width_for t) t own id len d log start).memory ≡ log
locate_leaves t = refusal_leaves (width_for t) t

-- a refused command leaves every word, and a command that is obeyed those of every other pair
module _ (w : List ℕ) (long : length w ≡ 408) (from to : ℕ) (c : Command) where
  pub command_leaves : ((commanded w from to c).answer.number ≡ 0 → ⊥) → (commanded w from to c).memory ≡ w
  command_leaves = refusal_stays w long from to c

  pub command_own : (f t : ℕ) → two_ports f t ≡ true → ((from ≡ f) × (to ≡ t) → ⊥) → pair_row (commanded w from to c).memory f t ≡ pair_row w f t
  command_own = others_stay w long from to c

-- ==== Demand 2: "A map is usable exactly when document 01 and J1939-74 say so. Packing a usable map puts each value at its bits and 1 in every other bit. Reading gives
-- the packed values back, and packing what was read gives the payload with its unassigned bits set to 1."

-- ---- usable: 01's rules one by one (judge, specs/Usable.antt), for any map and any dictionary

pub usable_when : (dictionary : ℕ → ℕ) (m : Map) → (usable dictionary m ≡ true) ↔ Usable dictionary m
usable_when = usable_exactly

-- "The judgement is the first of these that applies, with its lowest position"
pub judged_when : (dictionary : ℕ → ℕ) (m : Map) (k p : ℕ) → 1 ≤ k → (judge dictionary m ≡ at k p) ↔ FirstApplies (rule_list dictionary m) k p
judged_when = judged_exactly

module _ (width_of : ℕ → ℕ) (m : Map) where
  abbrev starts : List ℕ
  starts = starts_of width_of m

  abbrev widths : List ℕ
  widths = widths_of width_of m

  -- pack, read and find refuse a map with 12 exactly where it is held and its judgement isn't 0
  pub record Refused : Type 0 where
    pub pack : (numbers out : List ℕ) → ((packed_by width_of m numbers out).answer.number ≡ 12 → Unusable width_of m) × (Unusable width_of m → (packed_by width_of m numbers out).answer.number ≡ 12)
    pub read : (payload room states : List ℕ) → ((read_by width_of m payload room states).answer.number ≡ 12 → Unusable width_of m)
        × (Unusable width_of m → (read_by width_of m payload room states).answer.number ≡ 12)
    pub find : (spn : ℕ) → ((found_by width_of m spn).answer.number ≡ 12 → Unusable width_of m) × (Unusable width_of m → (found_by width_of m spn).answer.number ≡ 12)

  pub refused_12 : Refused
  refused_12 = record {
    pack = λ numbers out. let (a, b) = pack_12 width_of m numbers out in (a, λ u. ap (λ (o : Outcome). o.answer.number) (b u));
    read = λ payload room states. let (a, b) = read_12 width_of m payload room states in (a, λ u. ap (λ (r : Reading). r.answer.number) (b u));
    find = λ spn. let (a, b) = find_12 width_of m spn in (a, λ u. ap (λ (f : Finding). f.answer.number) (b u));
  }

  -- ---- done: a usable map, n numbers that fit and a buffer of at least L bytes ARE packed, and only these

  pub packs_when : (numbers out : List ℕ) → ((packed_by width_of m numbers out).answer.number ≡ 0) ↔ ((usable width_of m ≡ true) × Fit starts widths numbers × (length_of width_of m ≤ length out))
  packs_when numbers out = (done_packs width_of m numbers out, λ h. ap (λ (o : Outcome). o.answer.number) (pack_done_lem width_of m numbers out h.0 h.1 h.2))

  -- a usable map, a payload of exactly L bytes and room for at least n numbers and n states ARE read, and only these
  pub reads_when : (payload room states : List ℕ) → ((read_by width_of m payload room states).answer.number ≡ 0)
      ↔ ((usable width_of m ≡ true) × (length payload ≡ length_of width_of m) × (count_of m ≤ length room) × (count_of m ≤ length states))
  reads_when payload room states =
      (done-reads width_of m payload room states, λ h. ap (λ (r : Reading). r.answer.number) (read_done_lem width_of m payload room states h.0 h.1 h.2 h.3))

  -- ---- the bits

  -- after pack answered 0: bit k of the number at index i at its place, 1 in every other bit of the L bytes, the numbers back from reading them
  pub record Packed (numbers out : List ℕ) : Type 0 where
    pub bits : (i k : ℕ) → i < count_of m → k < get_or widths i 0 → bit_at (packed_by width_of m numbers out).memory (bit_place starts widths i k) ≡ bit (get_or numbers i 0) k
    pub others : (p : ℕ) → p < 8 * length_of width_of m → assigned starts widths p ≡ false → bit_at (packed_by width_of m numbers out).memory p ≡ 1
    pub past : drop (length_of width_of m) (packed_by width_of m numbers out).memory ≡ drop (length_of width_of m) out
    pub back : (room states : List ℕ) → count_of m ≤ length room → count_of m ≤ length states
        → read_by width_of m (take (length_of width_of m) (packed_by width_of m numbers out).memory) room states
        ≡ reads (done (count_of m)) (numbers ++ drop (count_of m) room) (states_of widths numbers (count_of m) ++ drop (count_of m) states)

  pub demand_2_pack : (numbers out : List ℕ) → (packed_by width_of m numbers out).answer.number ≡ 0 → Packed numbers out
  demand_2_pack numbers out e = record {
    bits = pack_bit width_of m numbers out e;
    others = pack_other width_of m numbers out e;
    past = pack_past width_of m numbers out e;
    back = read_back width_of m numbers out e;
  }

  -- after read answered 0: its numbers never make pack answer 14, and packing them gives the payload with its unassigned bits set to 1; and beside each stands its state
  pub record Read (payload room states : List ℕ) : Type 0 where
    pub fit : (out : List ℕ) → (packed_by width_of m (take (count_of m) (read_by width_of m payload room states).numbers) out).answer.number ≡ 14 → ⊥
    pub back : (out : List ℕ) → length_of width_of m ≤ length out
        → packed_by width_of m (take (count_of m) (read_by width_of m payload room states).numbers) out
        ≡ outcome (done (length_of width_of m)) (filled starts widths payload ++ drop (length_of width_of m) out)
    pub beside : take (count_of m) (read_by width_of m payload room states).states ≡ states_of widths (take (count_of m) (read_by width_of m payload room states).numbers) (count_of m)

  pub demand_2_read : (payload room states : List ℕ) → (read_by width_of m payload room states).answer.number ≡ 0 → Read payload room states
  demand_2_read payload room states e = record {
    fit = never_14 width_of m payload room states e;
    back = pack_back width_of m payload room states e;
    beside = read_states width_of m payload room states e;
  }

-- ==== Demand 3: "every answer about a key is the one 01 defines from the collection of different well-formed messages naming it since its last forget", and since Req 10 "the
-- messages since the last forget and the edition last set since then"

-- every answer that the edition and the map of a key decide
pub record Answers (a b : Known) : Type 0 where
  pub edition : a.edition ≡ b.edition
  pub count : count_of a.map ≡ count_of b.map
  pub judge : judged_by (width_by a.edition) a.map ≡ judged_by (width_by b.edition) b.map
  pub pack : (numbers out : List ℕ) → packed_by (width_by a.edition) a.map numbers out ≡ packed_by (width_by b.edition) b.map numbers out
  pub read : (payload room states : List ℕ) → read_by (width_by a.edition) a.map payload room states ≡ read_by (width_by b.edition) b.map payload room states
  pub find : (spn : ℕ) → found_by (width_by a.edition) a.map spn ≡ found_by (width_by b.edition) b.map spn
  pub stands : (p : ℕ) → stands_by (width_by a.edition) a.map p ≡ stands_by (width_by b.edition) b.map p

pub same-answers : (a b : Known) → a ≡ b → Answers a b
same-answers a b e = record {
  edition = ap (λ (x : Known). x.edition) e;
  count = ap (λ (x : Known). count_of x.map) e;
  judge = ap (λ (x : Known). judged_by (width_by x.edition) x.map) e;
  pack = λ numbers out. ap (λ (x : Known). packed_by (width_by x.edition) x.map numbers out) e;
  read = λ payload room states. ap (λ (x : Known). read_by (width_by x.edition) x.map payload room states) e;
  find = λ spn. ap (λ (x : Known). found_by (width_by x.edition) x.map spn) e;
  stands = λ p. ap (λ (x : Known). stands_by (width_by x.edition) x.map p) e;
}

-- of two that are alike in both
alike : {e f : ℕ} {m n : Map} → e ≡ f → m ≡ n → ◌≡◌ {A = Known} (record { edition = e; map = m }) (record { edition = f; map = n })
alike p q = λ i. record { edition = p i; map = q i }

module _ (calls : List Call) (bytes : AllCarried calls) where
  -- the table's map of a key after a run is the map of its set, and its edition the one last set
  map_is : (k : Key) → InBytes k → map_in (run calls) k ≡ map_of (set_of (happened calls) k)
  map_is k b = let (w, i) = run_is calls bytes in rw w (theorem.map_is (happened calls) i k b)

  set_is : (k : Key) → InBytes k → edition_in (run calls) k ≡ edition_of (kept (happened calls)) k
  set_is k b = let (w, i) = run_is calls bytes in rw w (edition-is (happened calls) i k b)

  -- after any run, of any length and with any number of keys: each answer is the one defined from the key's set and edition, "those answered 9 apart"
  pub from_the_set : (k : Key) → InBytes k → Answers (known_in (run calls) k) (known_by (kept (happened calls)) k)
  from_the_set k b = same-answers _ _ (alike (set_is k b) (map_is k b))

  -- "if at no moment more than 16 keys have well-formed messages since their last forget": from all of them
  module _ (few : Few (happened calls)) where
    demand_map : (k : Key) → InBytes k → map_in (run calls) k ≡ map_of (since (happened calls) k)
    demand_map k b = let (w, i) = run_is calls bytes in rw w (theorem.demand_map (happened calls) i few k b)

    demand_edition : (k : Key) → InBytes k → edition_in (run calls) k ≡ edition_of (happened calls) k
    demand_edition k b = let (w, i) = run_is calls bytes in rw w (theorem.demand_edition (happened calls) i few k b)

    pub demand_3 : (k : Key) → InBytes k → Answers (known_in (run calls) k) (known_by (happened calls) k)
    demand_3 k b = same-answers _ _ (alike (demand_edition k b) (demand_map k b))

    -- learn's own answer, forget's, and that to an edition
    pub demand_3_learn : (id len : ℕ) (d : List ℕ) → Carried (Frame id len d) → (learnt (run calls) id len d).answer ≡ plain (frame_answer (happened calls) id len d)
    demand_3_learn id len d c = let (w, i) = run_is calls bytes in rw w (theorem.demand_frame (happened calls) i few id len d c)

    pub demand_3_forget : (k : Key) → InBytes k → (forgotten (run calls) (key_number k)).answer ≡ plain (answer (happened calls) (Forget k))
    demand_3_forget k b = let (w, i) = run_is calls bytes in rw w (theorem.demand_forget (happened calls) i few k b)

    pub demand_3_edition : (k : Key) (e : ℕ) → InBytes k → (edited (run calls) (key_number k) e).answer ≡ plain (answer (happened calls) (Edition k e))
    demand_3_edition k e b = let (w, i) = run_is calls bytes in rw w (theorem.demand_set (happened calls) i few k e b)

-- two runs that leave a key the same set and the same edition, whatever came before, between and to other keys, give the same answers about it
pub same_set : (calls others : List Call) → AllCarried calls → AllCarried others → (k : Key) → InBytes k
    → SameMembers (set_of (happened calls) k) (set_of (happened others) k) → edition_of (kept (happened calls)) k ≡ edition_of (kept (happened others)) k
    → Answers (known_in (run calls) k) (known_in (run others) k)
same_set calls others bytes bytes' k b same edition =
    same-answers _ _
    (alike (set_is calls bytes k b ∙ edition ∙ sym (set_is others bytes' k b))
    (map_is calls bytes k b ∙ same_map (set_of (happened calls) k) (set_of (happened others) k) same ∙ sym (map_is others bytes' k b)))

-- "Order, repeats and other keys don't count", nor does the order of editions and messages between themselves: two runs with the same collection for a key, and the same
-- edition of it, give the same answers about it
module _ (calls others : List Call) (bytes : AllCarried calls) (bytes' : AllCarried others) (few : Few (happened calls)) (few' : Few (happened others)) where
  pub same_collection : (k : Key) → InBytes k → SameMembers (since (happened calls) k) (since (happened others) k) → edition_of (happened calls) k ≡ edition_of (happened others) k
      → Answers (known_in (run calls) k) (known_in (run others) k)
  same_collection k b same edition =
      same-answers _ _
      (alike (demand_edition calls bytes few k b ∙ edition ∙ sym (demand_edition others bytes' few' k b))
      (demand_map calls bytes few k b ∙ same_map (since (happened calls) k) (since (happened others) k) same ∙ sym (demand_map others bytes' few' k b)))

  -- and to a frame: a refusal 1 to 8 from the frame alone; a well-formed message by the collection of its key
  pub same_learn : (id len : ℕ) (d : List ℕ) → Carried (Frame id len d)
      → ((m : Message) → (heard id len d).message ≡ some m → Few (Learn m ∷ happened calls) × Few (Learn m ∷ happened others) × SameMembers (since (happened calls) m.key) (since (happened others) m.key))
      → (learnt (run calls) id len d).answer ≡ (learnt (run others) id len d).answer
  same_learn id len d c same =
      demand_3_learn calls bytes few id len d c ∙ ap plain (go (heard id len d).message refl) ∙ sym (demand_3_learn others bytes' few' id len d c)
    where
      go : (o : Option Message) → (heard id len d).message ≡ o
          → heard_answer (happened calls) (heard id len d).number o ≡ heard_answer (happened others) (heard id len d).number o
      go none e = refl
      go (some m) e = let (u, v, s) = same m e in same_answer (happened calls) (happened others) (Learn m) u v s

  -- and to a forget
  pub same_forget : (k : Key) → InBytes k → SameMembers (since (happened calls) k) (since (happened others) k)
      → (forgotten (run calls) (key_number k)).answer ≡ (forgotten (run others) (key_number k)).answer
  same_forget k b same =
      demand_3_forget calls bytes few k b
      ∙ ap (λ (e : Bool). plain (cond e 11 0)) (same_empty (since (happened calls) k) (since (happened others) k) same)
      ∙ sym (demand_3_forget others bytes' few' k b)

  -- and to an edition
  pub same-edition : (k : Key) (e : ℕ) → InBytes k → SameMembers (since (happened calls) k) (since (happened others) k)
      → (edited (run calls) (key_number k) e).answer ≡ (edited (run others) (key_number k) e).answer
  same-edition k e b same =
      demand_3_edition calls bytes few k e b
      ∙ ap (λ (x : Bool). plain (cond x 11 (cond (is_edition e) 0 27))) (same_empty (since (happened calls) k) (since (happened others) k) same)
      ∙ sym (demand_3_edition others bytes' few' k e b)

-- ---- "Answers about a port pair are those 01 gives from the commands naming that pair, in their order, and the frame or PGN asked about"

-- the answer to any call after any run of calls on fresh filters: 15, or that of the pair that its own commands, in their order, made of a fresh pair
pub demand_3_ports : (calls : List PortCall) (c : PortCall)
    → (called (filters_after calls) c).answer ≡ cond (two_ports c.from c.to) (answer_of (pair_after calls c.from c.to) c.ask) (plain 15)
demand_3_ports = answered

-- calls that name other pairs don't count
pub same_commands : (calls others : List PortCall) (c : PortCall) → only (names_pair c.from c.to) calls ≡ only (names_pair c.from c.to) others
    → (called (filters_after calls) c).answer ≡ (called (filters_after others) c).answer
same_commands = isolated

-- and of the pair's own calls, none before its last renew counts (Req 07)
pub same-since_renew : (calls others : List PortCall) (c : PortCall) → since_renew calls c.from c.to ≡ since_renew others c.from c.to
    → (called (filters_after calls) c).answer ≡ (called (filters_after others) c).answer
same-since_renew = nothing_before
