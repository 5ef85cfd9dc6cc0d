-- The words after a run of calls are those of what happened in it, so that every theorem on events is one on calls. Assumes nothing.
use Prim.Native.Nat.{ℕ, zero, suc, ◌<◌}
use mathlib.Core.Path.{◌≡◌, refl, sym, ap, ◌∙◌}
use mathlib.Core.Bool.{◌&&◌}
use mathlib.Core.List.{List, [], ◌∷◌, ◌++◌}
use lib.ListN.{get_or}
use Rattle.words.proofs.Tests.{test}
use Rattle.message.specs.Message.{heard}
use Rattle.record.specs.Record.{Bytes, record_in}
use Rattle.record.specs.Cut.{whole_in, record_at, over_to}
use Rattle.record.specs.Sized.{over_to_by, over_by}
use Rattle.record.specs.Chunk.{left_in, carried}
use Rattle.record.proofs.Bytes.{bytes_take, data_bytes}
use Rattle.history.specs.History.{Event, is_empty, keys, kept}
use Rattle.history.specs.Frames.{learns}
use Rattle.table.specs.Learn.{empty_table, learnt}
use Rattle.learned.specs.Events.{words_from, words_by, AllInWords}
use Rattle.learned.proofs.Frames.{frame-words, frame_in_words}
use Rattle.learned.proofs.Histories.{words_append, all_append}
use Rattle.feeding.specs.declared.Tally.{Tally}
use Rattle.feeding.specs.Feed.{State, state, step, feeding}
use Rattle.image.specs.Read.{events_of, good, loaded}
use Rattle.taught.proofs.Histories.{taught_in_words}
use Rattle.image.proofs.Again.{events-taught}
use Rattle.image.proofs.Empty.{load_events}
use Rattle.demands.specs.Calls.{Call, Frame, Forgets, Sets, Feeds, Empties, Loads, Reads, words_after, run, framed, recorded, events_after, happened, Carried, AllCarried}

-- the words are those of the events, whose numbers have their place in them
abbrev pub Kept : List ℕ → List Event → Type 0
Kept t h = (t ≡ words_by h) × AllInWords h

-- ---- a frame

kept_frame : (t : List ℕ) (h : List Event) (id len : ℕ) (d : List ℕ) → ((i : ℕ) → get_or d i 0 < 256) → Kept t h → Kept (learnt t id len d).memory (framed h id len d)
kept_frame t h id len d bytes k = (
  frame-words t id len d ∙ ap (λ (u : List ℕ). words_from u (learns (heard id len d).message)) k.0 ∙ sym (words_append empty_table (learns (heard id len d).message) h),
  all_append (learns (heard id len d).message) h (frame_in_words id len d bytes) k.1,
)

-- ---- the records of a log

kept_record : (r : List ℕ) → ((i : ℕ) → get_or (record_in r).bytes i 0 < 256) → (s : State) (h : List Event) → Kept s.words h → Kept (step s r).words (recorded h r)
unfolding step recorded
kept_record r b s h k = kept_frame s.words h (record_in r).id (record_in r).len (record_in r).bytes b k

kept_records : (log : List ℕ) → Bytes log → (s : State) (h : List Event) → Kept s.words h → (n : ℕ) → Kept (over_to step s log n).words (over_to recorded h log n)
unfolding over_to_by
kept_records log b s h k zero = k
kept_records log b s h k (suc n) = kept_record (record_at log n) (data_bytes log n b) (over_to step s log n) (over_to recorded h log n) (kept_records log b s h k n)

pub bytes-append : (a b : List ℕ) → Bytes a → Bytes b → Bytes (a ++ b)
bytes-append [] b p q = q
bytes-append (x ∷ a) b p q = (p.0, bytes-append a b p.1 q)

kept_feed : (t : List ℕ) (h : List Event) (s : Tally) (chunk : List ℕ) → Bytes s.carry → Bytes chunk → Kept t h
    → Kept (feeding t s chunk).words (events_after h (Feeds s chunk))
unfolding feeding over_by
kept_feed t h s chunk a b k =
    let log = carried s.left s.carry ++ chunk in
    kept_records log (bytes-append (carried s.left s.carry) chunk (bytes_take (left_in s.left) s.carry a) b) (state t s.counts) h k (whole_in log)

-- ---- a load

kept_load : (t : List ℕ) (h : List Event) (l : List ℕ) → Bytes l → Kept t h → Kept (loaded t l).memory (events_after h (Loads l))
kept_load t h l b k = (
  ap (λ (u : List ℕ). (loaded u l).memory) k.0 ∙ load_events h k.1 l,
  test (good l && is_empty (keys (kept h))) (λ y. rw y (all_append (events_of l) h (taught_in_words (events_of l) (events-taught l b)) k.1)) (λ n. rw n k.1),
)

-- ---- a run

-- a call keeps them together
called : (t : List ℕ) (h : List Event) (c : Call) → Carried c → Kept t h → Kept (words_after t c) (events_after h c)
called t h (Frame id len d) b k = kept_frame t h id len d b k
called t h (Forgets key) b k = (ap (λ (u : List ℕ). words_after u (Forgets key)) k.0, (record { key = b; row = tt }, k.1))
called t h (Sets key e) b k = (ap (λ (u : List ℕ). words_after u (Sets key e)) k.0, (record { key = b; row = tt }, k.1))
called t h (Feeds s chunk) b k = kept_feed t h s chunk b.0 b.1 k
called t h Empties b k = (refl, tt)
called t h (Loads l) b k = kept_load t h l b k
called t h Reads b k = k

pub run_is : (calls : List Call) → AllCarried calls → Kept (run calls) (happened calls)
unfolding run happened
run_is [] b = (refl, tt)
run_is (c ∷ cs) b = called (run cs) (happened cs) c b.0 (run_is cs b.1)
