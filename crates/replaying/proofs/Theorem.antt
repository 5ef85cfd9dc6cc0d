-- What the calls of this room are worth together: a trace that is fed in chunks of any size, cut anywhere, and then finished, gives `replay_of` the trace (specs/Replay.antt), which is defined from the trace
-- alone; and 2,304 bytes always hold it. Assumes nothing.
use Prim.Native.Nat.{ℕ, ◌+◌, ◌≤◌}
use native.Mathlib.Omega.{arith}
use mathlib.Core.Path.{◌≡◌, refl, sym, ap, ◌∙◌}
use mathlib.Core.Bool.{true}
use mathlib.Core.List.{List, [], ◌++◌, flatten}
use borrow.Author.Tests.{lt-ltb, le-leb}
use lib.ListN.{length}
use Rattle.answers.specs.Answers.{outcome, done}
use Rattle.splice.specs.Splice.{splice}
use Rattle.record.specs.Sized.{whole_by, left_by, over_to_by, over_by}
use Rattle.record.proofs.Sized as sized
use Rattle.ports.specs.Filters.{two_ports, fresh_words}
use Rattle.bridge.specs.Bridge.{Bridge, fresh_bridge, Stands}
use Rattle.traffic.proofs.Theorem.{stands_as}
use Rattle.replaying.specs.declared.Tally.{Tally}
use Rattle.replaying.specs.Counts.{no_counts}
use Rattle.replaying.specs.Feed.{started, Fed, fed, feeding, all_fed}
use Rattle.replaying.specs.Lines.{twelve, replay_with, page_of, finished}
use Rattle.replaying.specs.Replay.{tell, entries_of, calls_of, known, replay_of}
use Rattle.replaying.proofs.Chunks.{some, fed_twice, fed_all_lem}
use Rattle.replaying.proofs.Widths.{enough}
use Rattle.replaying.proofs.Told.{told}

-- what is known of the twelve pairs alone counts
same-twelve : (look see : ℕ → ℕ → Stands) → ((f t : ℕ) → two_ports f t ≡ true → look f t ≡ see f t) → twelve look ≡ twelve see
unfolding twelve two_ports
same-twelve look see h =
    rw (h 1 2 refl, h 1 3 refl, h 1 4 refl, h 2 1 refl, h 2 3 refl, h 2 4 refl, h 3 1 refl, h 3 2 refl, h 3 4 refl, h 4 1 refl, h 4 2 refl, h 4 3 refl)

-- ---- feeding

-- a chunk may be cut in two anywhere
pub cut_anywhere : (b : Bridge) (w : List ℕ) (s : Tally) (x y : List ℕ) → feeding (feeding b w s x).words (feeding b w s x).filters (feeding b w s x).tally y ≡ feeding b w s (x ++ y)
cut_anywhere = fed_twice

-- from fresh words and a fresh tally, chunk after chunk
abbrev pub after : List (List ℕ) → Fed
after chunks = all_fed (fed fresh_bridge fresh_words started) chunks

-- any two cuttings of one trace come to the same
pub any_cutting : (a b : List (List ℕ)) → flatten a ≡ flatten b → after a ≡ after b
any_cutting a b e =
    fed_all_lem a fresh_bridge fresh_words no_counts [] (omega arith) ∙ ap (feeding fresh_bridge fresh_words started) e ∙ sym (fed_all_lem b fresh_bridge fresh_words no_counts [] (omega arith))

-- ---- the text

whole_trace : (trace : List ℕ) → page_of (feeding fresh_bridge fresh_words started trace).words (feeding fresh_bridge fresh_words started trace).tally ≡ replay_of trace
unfolding feeding replay_of entries_of over_by replay_with
whole_trace trace =
    let u = told trace (whole_by 14 trace) in
    let es = over_to_by tell 14 [] trace (whole_by 14 trace) in
    rw (u.words, u.counts, lt-ltb (length (left_by 14 trace)) 14 (sized.left_less 14 some trace), same-twelve _ (known es) (λ f t y. stands_as fresh_words (calls_of es) f t y))

-- finishing after the chunks of a trace gives its replay
pub replayed : (chunks : List (List ℕ)) → page_of (after chunks).words (after chunks).tally ≡ replay_of (flatten chunks)
replayed chunks = ap (λ (f : Fed). page_of f.words f.tally) (fed_all_lem chunks fresh_bridge fresh_words no_counts [] (omega arith)) ∙ whole_trace (flatten chunks)

-- ---- the figure that always holds it

pub never_longer : (trace : List ℕ) → length (replay_of trace) ≤ 2304
never_longer trace = rw (← (whole_trace trace)) (enough (feeding fresh_bridge fresh_words started trace).words (feeding fresh_bridge fresh_words started trace).tally)

-- so a buffer of 2,304 bytes gets the whole text, and answer 13 is not given
pub finished-is : (chunks : List (List ℕ)) (out : List ℕ) → 2304 ≤ length out
    → finished (after chunks).words (after chunks).tally out ≡ outcome (done (length (replay_of (flatten chunks)))) (splice out 0 (replay_of (flatten chunks)))
unfolding finished
finished-is chunks out h = rw (replayed chunks, le-leb (0 + length (replay_of (flatten chunks))) (length out) (omega (arith, never_longer (flatten chunks))))
