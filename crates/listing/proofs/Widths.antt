-- How long the lines are at most: 512 bytes always hold a listing. On any words and any tally. Assumes nothing.
use Prim.Native.Nat.{ℕ, zero, suc, ◌+◌, ◌*◌, ◌≤◌, ◌<◌}
use native.Mathlib.Omega.{arith}
use native.Mathlib.Decide.{dec_lt, ℕ_discrete}
use mathlib.Core.Path.{◌≡◌}
use mathlib.Core.Logic.{inl, inr}
use mathlib.Core.List.{List, flatten, flat_map}
use borrow.Author.Tests.{lt-ltb, le-ltb}
use lib.Dec.{ltb, eqb}
use lib.ListN.{length, length-append}
use Rattle.answers.specs.Answers.{Judged}
use Rattle.text.proofs.Lengths.{byte_digits, any_digits}
use Rattle.text.proofs.Pieces.{flat_length}
use Rattle.dictionary.specs.Dictionary.{width_by}
use Rattle.message.specs.declared.Key.{Key}
use Rattle.maps.specs.Maps.{Map, Nothing, Conflict, Held}
use Rattle.judge.specs.Judge.{count_of, judge, measured, judge_over}
use Rattle.words.proofs.Tests.{test}
use Rattle.judge.proofs.Rules.{Named}
use Rattle.judge.proofs.Judged.{judged-named}
use Rattle.record.specs.Chunk.{left_in}
use Rattle.record.proofs.Chunks.{left_few}
use Rattle.history.specs.History.{most_keys}
use Rattle.keyrow.specs.Row.{key_number, key_numbers, key_named, state_word, InBytes}
use Rattle.lookup.specs.Layout.{row_of, slot_of}
use Rattle.keyrow.specs.View.{row_map}
use Rattle.lookup.specs.View.{map_in, edition_in}
use Rattle.lookup.specs.Next.{lowest_from, key_at, next_key, walk, held_keys}
use Rattle.feeding.specs.declared.Counts.{Counts}
use Rattle.feeding.specs.declared.Tally.{Tally}
use Rattle.listing.specs.Lines.{line_of, key_line, last_line, listing_with}
use Rattle.listing.specs.Page.{page_of}
use Rattle.learned.proofs.KeyNumbers.{named-bytes}

-- ---- what is known of a key, in bytes

named-byte : (n : ℕ) (j : Judged) → n < 256 → Named n j → (j.number < 256) × (j.position < 256)
named-byte n j h u = (omega (arith, u.number), go (dec_lt j.number 2) (ℕ_discrete j.number 8))
  where
    go : Dec (j.number < 2) → Dec (j.number ≡ 8) → j.position < 256
    go (yes a) b = omega (arith, u.none (inl (omega arith)))
    go (no a) (yes b) = omega (arith, u.none (inr b))
    go (no a) (no b) = omega (arith, u.some (omega arith) b)

judged-byte : (width_of : ℕ → ℕ) (m : Map) → count_of m < 256 → ((judge width_of m).number < 256) × ((judge width_of m).position < 256)
judged-byte width_of Nothing h = (omega arith, omega arith)
judged-byte width_of Conflict h = (omega arith, omega arith)
judged-byte width_of (Held x places) h =
    named-byte x.n (judge_over x.n x.transport (measured width_of places)) h (judged-named x.n x.transport (measured width_of places))

row-byte : (r : List ℕ) → count_of (row_map r) < 256
unfolding row_map
row-byte r = test (eqb (state_word r) 1) (λ t. rw t (omega arith)) (λ f. rw f (omega arith))

count-byte : (t : List ℕ) (k : Key) → count_of (map_in t k) < 256
unfolding map_in
count-byte t k =
    test (ltb (slot_of t (key_number k)) most_keys) (λ h. rw h (row-byte (row_of t (slot_of t (key_number k))))) (λ f. rw f (omega arith))

-- ---- lines

line : (k : Key) (n : ℕ) (j : Judged) → InBytes k → n < 256 → j.number < 256 → j.position < 256 → length (flatten (line_of k n j)) ≤ 24
unfolding flatten
line k n j b h p q =
    simp length-append (omega (arith, byte_digits k.source b.source, byte_digits k.destination b.destination, byte_digits k.k b.number, byte_digits n h, byte_digits j.number p, byte_digits j.position q))

key_line_lem : (t : List ℕ) (k : Key) → InBytes k → length (flatten (key_line k (edition_in t k) (map_in t k))) ≤ 24
unfolding key_line
key_line_lem t k b =
    let h = count-byte t k in
    let (p, q) = judged-byte (width_by (edition_in t k)) (map_in t k) h in
    line k (count_of (map_in t k)) (judge (width_by (edition_in t k)) (map_in t k)) b h p q

last : (c : Counts) (left : ℕ) → left < 256 → length (flatten (last_line c left)) ≤ 94
unfolding flatten last_line
last c left h = simp length-append (omega (arith, any_digits c.records, any_digits c.refused, any_digits c.other, byte_digits left h))

abbrev lines : List ℕ → List Key → List (List ℕ)
lines t ks = flat_map (λ k. key_line k (edition_in t k) (map_in t k)) ks

walked : (n : ℕ) (t : List ℕ) (x : ℕ) → length (flatten (lines t (walk n t (key_at x)))) ≤ 24 * n
unfolding walk flat_map flatten
walked zero t x = omega arith
walked (suc n) t x = go (dec_lt x key_numbers) (walked n t (lowest_from t (key_number (key_named x) + 1)))
  where
    go : Dec (x < key_numbers) → length (flatten (lines t (walk n t (next_key t (key_named x))))) ≤ 24 * n → length (flatten (lines t (walk (suc n) t (key_at x)))) ≤ 24 * suc n
    go (no h) ih = rw (le-ltb x key_numbers (omega arith)) (omega arith)
    go (yes h) ih =
        rw (lt-ltb x key_numbers h, flat_length (key_line (key_named x) (edition_in t (key_named x)) (map_in t (key_named x))) (lines t (walk n t (next_key t (key_named x)))))
        (omega (arith, key_line_lem t (key_named x) (named-bytes x h)))

-- ---- the whole listing

pub enough : (t : List ℕ) (s : Tally) → length (page_of t s) ≤ 512
unfolding listing_with flatten
enough t s =
    omega (arith, flat_length (lines t (held_keys t)) (last_line s.counts (left_in s.left)), walked most_keys t (lowest_from t 0), last s.counts (left_in s.left) (omega (arith, left_few s.left)))
