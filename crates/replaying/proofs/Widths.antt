-- How long the lines are at most: 2,304 bytes always hold the text of a replay. On any words and any tally. Assumes nothing.
use Prim.Native.Nat.{ℕ, ◌≤◌, ◌<◌}
use native.Mathlib.Omega.{arith}
use mathlib.Core.List.{◌++◌, flatten}
use lib.Dec.{lit<}
use lib.ListN.{length, length-append}
use Rattle.text.proofs.Lengths.{byte_digits, any_digits}
use Rattle.text.proofs.Pieces.{flat_length}
use Rattle.record.specs.Sized.{held_by}
use Rattle.record.proofs.Sized.{held_few}
use Rattle.bridge.specs.Bridge.{Bridge, Stands, standing}
use Rattle.replaying.specs.declared.Counts.{Counts}
use Rattle.replaying.specs.declared.Tally.{Tally}
use Rattle.replaying.specs.Lines.{line_of, last_line, three, twelve, replay_with, page_of}
use Rattle.replaying.proofs.Chunks.{some}

line : (from to : ℕ) (s : Stands) → from < 256 → to < 256 → length (flatten (line_of from to s)) ≤ 155
unfolding flatten
line from to s h l =
    let k = s.counters in
    simp length-append (omega (arith, byte_digits from h, byte_digits to l, any_digits k.arrived, any_digits k.filtered, any_digits k.queued, any_digits k.sent, any_digits k.turned, any_digits k.refused, any_digits s.waiting))

last : (k : Counts) (left : ℕ) → left < 256 → length (flatten (last_line k left)) ≤ 188
unfolding flatten last_line
last k left h =
    simp length-append (omega (arith, any_digits k.events, any_digits k.frames, any_digits k.slots, any_digits k.commands, any_digits k.refused, any_digits k.other, byte_digits left h))

-- the three pairs from a port
threes : (look : ℕ → ℕ → Stands) (from x y z : ℕ) → from < 256 → x < 256 → y < 256 → z < 256 → length (flatten (three look from x y z)) ≤ 465
threes look from x y z f a b c =
    omega (arith, flat_length (line_of from x (look from x)) (line_of from y (look from y) ++ line_of from z (look from z)), flat_length (line_of from y (look from y)) (line_of from z (look from z)), line from x (look from x) f a, line from y (look from y) f b, line from z (look from z) f c)

all_pairs : (look : ℕ → ℕ → Stands) → length (flatten (twelve look)) ≤ 1860
unfolding twelve
all_pairs look =
    omega (
      arith,
      flat_length (three look 1 2 3 4) (three look 2 1 3 4 ++ (three look 3 1 2 4 ++ three look 4 1 2 3)),
      flat_length (three look 2 1 3 4) (three look 3 1 2 4 ++ three look 4 1 2 3),
      flat_length (three look 3 1 2 4) (three look 4 1 2 3),
      threes look 1 2 3 4 (lit< tt) (lit< tt) (lit< tt) (lit< tt),
      threes look 2 1 3 4 (lit< tt) (lit< tt) (lit< tt) (lit< tt),
      threes look 3 1 2 4 (lit< tt) (lit< tt) (lit< tt) (lit< tt),
      threes look 4 1 2 3 (lit< tt) (lit< tt) (lit< tt) (lit< tt),
    )

pub enough : (b : Bridge) (s : Tally) → length (page_of b s) ≤ 2304
unfolding replay_with flatten
enough b s =
    let left = held_by 14 s.left in
    omega (arith, flat_length (twelve (standing b)) (last_line s.counts left), all_pairs (standing b), last s.counts left (omega (arith, held_few 14 some s.left)))
