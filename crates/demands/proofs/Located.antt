-- Answering a Parameter Locate after any run of calls (02, Req 03). Every history of a run is one of frames, so that each message sent is one that was heard: its
-- record is heard as that message, and the records that answer, fed to an empty table, teach the same placement. And the answer goes by the sets and the editions of our own address' keys.
-- Assumes nothing.
use Prim.Native.Nat.{ℕ, zero, suc, ◌+◌, ◌*◌, ◌<◌}
use mathlib.Core.Path.{◌≡◌, sym, ap, ◌∙◌}
use mathlib.Core.Bool.{true, false, ◌&&◌}
use mathlib.Core.Option.{none, some}
use mathlib.Core.List.{List, [], ◌∷◌, ◌++◌}
use lib.ListN.{length, drop, get_or}
use Rattle.dictionary.specs.Dictionary.{width_by}
use Rattle.message.specs.declared.Key.{Key}
use Rattle.message.specs.declared.Message.{Message}
use Rattle.message.specs.Message.{heard}
use Rattle.record.specs.Record.{Bytes, record_in}
use Rattle.record.specs.Cut.{whole_in, record_at, over_to}
use Rattle.record.specs.Sized.{over_to_by, over_by}
use Rattle.record.specs.Chunk.{left_in, carried}
use Rattle.record.proofs.Bytes.{bytes_take, data_bytes}
use Rattle.maps.specs.Maps.{Nothing, Held, places_with, SameMembers}
use Rattle.history.specs.History.{Event, is_empty, keys, kept, since, set_of, edition_of, Few}
use Rattle.history.specs.Frames.{learns}
use Rattle.history.proofs.Demand.{all_kept}
use Rattle.history.proofs.Keys.{has}
use Rattle.keyrow.specs.Row.{InBytes}
use Rattle.lookup.specs.View.{map_in}
use Rattle.table.specs.Learn.{empty_table}
use Rattle.learned.specs.Events.{words_by}
use Rattle.learned.proofs.Editions.{edition-is}
use Rattle.open.specs.Open.{width_for}
use Rattle.feeding.specs.Feed.{started, feeding}
use Rattle.words.proofs.Tests.{test}
use Rattle.image.specs.Read.{events_of, good}
use Rattle.image.proofs.Again.{events-taught}
use Rattle.written.specs.Written.{log_of}
use Rattle.written.proofs.Records.{heard_in}
use Rattle.taught.specs.Taught.{AllTaught}
use Rattle.taught.proofs.Histories.{frame-taught, taught-append}
use Rattle.locate.specs.Locate.{head_in, placement, located_keys, located, answers_to, located_by}
use Rattle.locate.proofs.Heard.{read_back, same-located}
use Rattle.locate.proofs.Fed.{same-placement, nothing_else}
use Rattle.demands.specs.Calls.{Call, Frame, Forgets, Sets, Feeds, Empties, Loads, Reads, run, framed, recorded, events_after, happened, Carried, AllCarried}
use Rattle.demands.proofs.Calls.{bytes-append, run_is}

-- ---- every history of a run is one of frames

taught-frame : (h : List Event) (id len : ℕ) (d : List ℕ) → ((i : ℕ) → get_or d i 0 < 256) → AllTaught h → AllTaught (framed h id len d)
taught-frame h id len d b u = taught-append (learns (heard id len d).message) h (frame-taught id len d b) u

taught_records : (log : List ℕ) → Bytes log → (h : List Event) → AllTaught h → (n : ℕ) → AllTaught (over_to recorded h log n)
unfolding over_to_by recorded
taught_records log b h u zero = u
taught_records log b h u (suc n) =
    let r = record_in (record_at log n) in
    taught-frame (over_to recorded h log n) r.id r.len r.bytes (data_bytes log n b) (taught_records log b h u n)

called-taught : (h : List Event) (c : Call) → Carried c → AllTaught h → AllTaught (events_after h c)
unfolding over_by
called-taught h (Frame id len d) b u = taught-frame h id len d b u
called-taught h (Forgets k) b u = (b, u)
called-taught h (Sets k e) b u = (b, u)
called-taught h (Feeds s chunk) b u =
    let log = carried s.left s.carry ++ chunk in
    taught_records log (bytes-append (carried s.left s.carry) chunk (bytes_take (left_in s.left) s.carry b.0) b.1) h u (whole_in log)
called-taught h Empties b u = tt
called-taught h (Loads l) b u =
    test (good l && is_empty (keys (kept h))) (λ y. rw y (taught-append (events_of l) h (events-taught l b) u)) (λ n. rw n u)
called-taught h Reads b u = u

pub run-taught : (calls : List Call) → AllCarried calls → AllTaught (happened calls)
unfolding happened
run-taught [] b = tt
run-taught (c ∷ cs) b = called-taught (happened cs) c b.0 (run-taught cs b.1)

-- ---- "Reading what we wrote teaches the same placement", after any run

module _ (calls : List Call) (bytes : AllCarried calls) where
  -- the record behind those of the messages before it is heard as its message
  pub located-heard : (own id len : ℕ) (d log : List ℕ) (start : ℕ) → (located_by (width_for (run calls)) (run calls) own id len d log start).answer.number ≡ 0
      → (xs ys : List Message) (m : Message) → answers_to (width_for (run calls)) (run calls) own id d ≡ xs ++ (m ∷ ys)
      → heard_in (drop (start + 13 * length xs) (located_by (width_for (run calls)) (run calls) own id len d log start).memory) ≡ record { number = 0; message = some m }
  located-heard own id len d log start = rw (run_is calls bytes).0 (read_back (happened calls) (run-taught calls bytes) (width_for (words_by (happened calls))) own id len d log start)

  -- the records fed to an empty table: n, the flags and the one place of each key that answered, and nothing of any other
  pub located-taught : (own spn : ℕ) (k : Key) → InBytes k → has k (located_keys (width_for (run calls)) (run calls) own spn) ≡ true
      → map_in (feeding empty_table started (log_of (located (width_for (run calls)) (run calls) own spn))).words k
      ≡ Held (head_in (map_in (run calls) k)) (places_with (λ p. none) (placement (width_for (run calls) k) spn k (map_in (run calls) k)))
  located-taught own spn k b = rw (run_is calls bytes).0 (same-placement (happened calls) (run-taught calls bytes) (width_for (words_by (happened calls))) own spn k b)

  pub located_alone : (own spn : ℕ) (k : Key) → InBytes k → has k (located_keys (width_for (run calls)) (run calls) own spn) ≡ false
      → map_in (feeding empty_table started (log_of (located (width_for (run calls)) (run calls) own spn))).words k ≡ Nothing
  located_alone own spn k b = rw (run_is calls bytes).0 (nothing_else (happened calls) (run-taught calls bytes) (width_for (words_by (happened calls))) own spn k b)

-- ---- demand 3: the answer goes by the sets and the editions of our own address' keys

module _ (calls others : List Call) (bytes : AllCarried calls) (bytes' : AllCarried others) (own : ℕ) where
  pub located-same-set : ((k : Key) → InBytes k → k.source ≡ own → SameMembers (set_of (happened calls) k) (set_of (happened others) k))
      → ((k : Key) → InBytes k → k.source ≡ own → edition_of (kept (happened calls)) k ≡ edition_of (kept (happened others)) k)
      → (id len : ℕ) (d log : List ℕ) (start : ℕ) → located_by (width_for (run calls)) (run calls) own id len d log start ≡ located_by (width_for (run others)) (run others) own id len d log start
  located-same-set same editions id len d log start =
      let (w, i) = run_is calls bytes in
      let (v, j) = run_is others bytes' in
      rw (w, v)
      (same-located (happened calls) (happened others) i j own (width_for (words_by (happened calls))) (width_for (words_by (happened others)))
      (λ k b s. ap width_by (edition-is (happened calls) i k b ∙ editions k b s ∙ sym (edition-is (happened others) j k b))) same id len d log start)

  -- and where never more than 16 keys had messages, by their collections and their editions
  module _ (few : Few (happened calls)) (few' : Few (happened others)) where
    pub located-same : ((k : Key) → InBytes k → k.source ≡ own → SameMembers (since (happened calls) k) (since (happened others) k))
        → ((k : Key) → InBytes k → k.source ≡ own → edition_of (happened calls) k ≡ edition_of (happened others) k)
        → (id len : ℕ) (d log : List ℕ) (start : ℕ) → located_by (width_for (run calls)) (run calls) own id len d log start ≡ located_by (width_for (run others)) (run others) own id len d log start
    located-same same editions =
        located-same-set (λ k b s. rw (all_kept (happened calls) few, all_kept (happened others) few') (same k b s))
        (λ k b s. rw (all_kept (happened calls) few, all_kept (happened others) few') (editions k b s))
