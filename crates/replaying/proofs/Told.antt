-- The words and counts that a trace leaves are those of its entries: the run of their calls, and how many there were of each kind. Assumes nothing.
use Prim.Native.Nat.{ℕ, zero, suc, ◌+◌}
use native.Mathlib.Omega.{arith}
use mathlib.Core.Path.{◌≡◌, refl, ap, ap₂, ◌∙◌}
use mathlib.Core.Bool.{not, cond}
use mathlib.Core.List.{List, [], ◌∷◌}
use lib.Dec.{eqb}
use lib.ListN.{length}
use Rattle.words.proofs.Tests.{test}
use Rattle.record.specs.Sized.{record_by, over_to_by}
use Rattle.pairs.specs.declared.Command.{Command}
use Rattle.pairs.specs.declared.Command.TheVariants.{Add as AddPgn, Delete as DeletePgn, Renew as RenewMode}
use Rattle.ports.specs.Filters.{fresh_words, commanded}
use Rattle.bridge.specs.Bridge.{Bridge, fresh_bridge, offered}
use Rattle.counters.specs.Count.{more}
use Rattle.traffic.specs.Traffic.{wrapped}
use Rattle.traffic.specs.Runs.{run, filters_by}
use Rattle.traffic.proofs.Theorem.{run-filters}
use Rattle.trace.specs.declared.Entry.{Entry}
use Rattle.trace.specs.declared.Entry.TheVariants.{Frame, Slot, Add, Delete, Renew, Other}
use Rattle.trace.specs.Entry.{entry_in}
use Rattle.replaying.specs.declared.Counts.{Counts}
use Rattle.replaying.specs.Counts.{no_counts, with_frame, with_slot, with_command, with_other}
use Rattle.replaying.specs.Feed.{State, state, slot_words, with_outcome, played, step}
use Rattle.replaying.specs.Replay.{tell, calls_of, is_frame, is_slot, is_command, is_other, how_often, refused_in, counts_of}

-- ---- counts

wrap_more : (n : ℕ) → more (wrapped n) ≡ wrapped (suc n)
wrap_more n = omega arith

wrap_none : (n : ℕ) → wrapped n ≡ wrapped (n + 0)
wrap_none n = let e : n ≡ n + 0 = omega arith in ap wrapped e

-- a command that was refused is counted as such
refused-more : (n number : ℕ) → cond (eqb number 0) (wrapped n) (more (wrapped n)) ≡ wrapped (n + cond (not (eqb number 0)) 1 0)
refused-more n number = test (eqb number 0) (λ y. rw y (wrap_none n)) (λ y. rw y (omega arith))

-- the number of the answer to a command after some entries
abbrev number_to : List Entry → ℕ → ℕ → Command → ℕ
number_to es from to c = (commanded (filters_by fresh_words (calls_of es)) from to c).answer.number

module _ (es : List Entry) where
  frame-more : (port id : ℕ) → with_frame (counts_of es) ≡ counts_of (Frame port id ∷ es)
  unfolding refused_in
  frame-more port id =
      let p = wrap_more (length es) in
      let q = wrap_more (how_often is_frame es) in
      let r = wrap_none (refused_in es) in
      λ i. record { events = p i; frames = q i; slots = wrapped (how_often is_slot es); commands = wrapped (how_often is_command es); refused = r i; other = wrapped (how_often is_other es) }

  slot-more : (port : ℕ) → with_slot (counts_of es) ≡ counts_of (Slot port ∷ es)
  unfolding refused_in
  slot-more port =
      let p = wrap_more (length es) in
      let q = wrap_more (how_often is_slot es) in
      let r = wrap_none (refused_in es) in
      λ i. record { events = p i; frames = wrapped (how_often is_frame es); slots = q i; commands = wrapped (how_often is_command es); refused = r i; other = wrapped (how_often is_other es) }

  other-more : with_other (counts_of es) ≡ counts_of (Other ∷ es)
  unfolding refused_in
  other-more =
      let p = wrap_more (length es) in
      let q = wrap_more (how_often is_other es) in
      let r = wrap_none (refused_in es) in
      λ i. record { events = p i; frames = wrapped (how_often is_frame es); slots = wrapped (how_often is_slot es); commands = wrapped (how_often is_command es); refused = r i; other = q i }

  -- a command with this answer, whichever it is
  command_more : (n : ℕ) → with_command (counts_of es) n
      ≡ record {
        events = wrapped (suc (length es));
        frames = wrapped (how_often is_frame es);
        slots = wrapped (how_often is_slot es);
        commands = wrapped (suc (how_often is_command es));
        refused = wrapped (refused_in es + cond (not (eqb n 0)) 1 0);
        other = wrapped (how_often is_other es);
      }
  command_more n =
      let p = wrap_more (length es) in
      let q = wrap_more (how_often is_command es) in
      let r = refused-more (refused_in es) n in
      λ i. record { events = p i; frames = wrapped (how_often is_frame es); slots = wrapped (how_often is_slot es); commands = q i; refused = r i; other = wrapped (how_often is_other es) }

-- ---- the first n records

pub record Told (s : State) (es : List Entry) : Type 0 where
  pub words : s.words ≡ (run fresh_words (calls_of es)).words
  pub filters : s.filters ≡ (run fresh_words (calls_of es)).filters
  pub counts : s.counts ≡ counts_of es

-- a command: the filters go by it, and its answer is counted
told_command : (s : State) (es : List Entry) → Told s es → (from to : ℕ) (c : Command) (k : Counts)
    → with_command (counts_of es) (number_to es from to c) ≡ k
    → ((with_outcome s (commanded s.filters from to c)).words ≡ (run fresh_words (calls_of es)).words)
    × ((with_outcome s (commanded s.filters from to c)).filters ≡ (commanded (run fresh_words (calls_of es)).filters from to c).memory)
    × ((with_outcome s (commanded s.filters from to c)).counts ≡ k)
told_command s es t from to c k e = (
  t.words,
  ap (λ (w : List ℕ). (commanded w from to c).memory) t.filters,
  ap₂ (λ (x : Counts) (w : List ℕ). with_command x (commanded w from to c).answer.number) t.counts (t.filters ∙ run-filters fresh_words (calls_of es)) ∙ e,
)

told_more : (e : Entry) (s : State) (es : List Entry) → Told s es → Told (played s e) (e ∷ es)
unfolding played calls_of run refused_in
told_more (Frame port id) s es t = record {
  words = ap₂ (λ (b : Bridge) (w : List ℕ). (offered b w port id).words) t.words t.filters;
  filters = t.filters;
  counts = ap with_frame t.counts ∙ frame-more es port id;
}
told_more (Slot port) s es t = record {
  words = ap (λ (b : Bridge). slot_words b port) t.words;
  filters = t.filters;
  counts = ap with_slot t.counts ∙ slot-more es port;
}
told_more (Add from to pgn) s es t =
    let (p, q, r) = told_command s es t from to (AddPgn pgn) (counts_of (Add from to pgn ∷ es)) (command_more es (number_to es from to (AddPgn pgn))) in
    record { words = p; filters = q; counts = r }
told_more (Delete from to pgn) s es t =
    let (p, q, r) = told_command s es t from to (DeletePgn pgn) (counts_of (Delete from to pgn ∷ es)) (command_more es (number_to es from to (DeletePgn pgn))) in
    record { words = p; filters = q; counts = r }
told_more (Renew from to mode) s es t =
    let (p, q, r) = told_command s es t from to (RenewMode mode) (counts_of (Renew from to mode ∷ es)) (command_more es (number_to es from to (RenewMode mode))) in
    record { words = p; filters = q; counts = r }
told_more Other s es t = record { words = t.words; filters = t.filters; counts = ap with_other t.counts ∙ other-more es }

pub told : (trace : List ℕ) (n : ℕ) → Told (over_to_by step 14 (state fresh_bridge fresh_words no_counts) trace n) (over_to_by tell 14 [] trace n)
unfolding over_to_by step run calls_of refused_in
told trace zero = record { words = refl; filters = refl; counts = refl }
told trace (suc n) = told_more (entry_in (record_by 14 trace n)) _ _ (told trace n)
