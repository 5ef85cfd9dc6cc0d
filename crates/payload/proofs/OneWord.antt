-- A payload of eight bytes packed and read as one number. Assumes nothing.
use mathlib.Core.Path.{◌≡◌, refl, sym, ap, ◌∙◌}
use mathlib.Core.Bool.{Bool, true, false, not, ◌&&◌, ◌||◌, and-eq-true_iff}
use mathlib.Core.List.{List, ◌++◌}
use Prim.Native.Nat.{ℕ, zero, suc, ◌+◌, ◌*◌, ◌/◌, ◌%◌, ◌^◌, ◌≤◌, ◌<◌}
use native.Mathlib.Nat.{div-one}
use native.Mathlib.Numerals.{add-one}
use native.Mathlib.Omega.{arith}
use borrow.Author.Tests.{not-true, not-false, eqb-true, leb-true, ltb-false, eq-eqb, le-ltb}
use lib.Dec.{eqb, leb, ltb}
use lib.ListN.{length, get_or, drop}
use Rattle.words.specs.Lists.{tabulate}
use Rattle.words.proofs.Lists.{tabulate_equal}
use Rattle.words.proofs.Lowest.{neither, lowest_none, None}
use Rattle.places.specs.Place.{end_to, bytes_for, size_of, unplaced_in}
use Rattle.places.proofs.Placed.{Placed, none_unplaced}
use Rattle.bits.specs.Bits.{bit, from_bits, bytes_with, run_at}
use Rattle.bits.proofs.Bits.{bit_shr, bit-from, from-same, from_of, bytes_same}
use Rattle.bits.proofs.Number.{lies_in_lem}
use Rattle.single.specs.Single.{number_of, lies_there, cut_from, all_lie, numbers_of, taking, taken, laid_on}
use Rattle.single.proofs.Cutting.{there, cut_lies, lies_at, all_taken, cut_is_read}
use Rattle.single.proofs.Laying.{word-laid}
use Rattle.std.specs.Prelude.{Ok}
use Rattle.std.specs.Int.{w64, to_le_bytes}
use Rattle.payload.specs.Payload.{bit_after_all, packed, read_all}
use Rattle.payload.specs.Calls.{left, needs_more, too_wide_in, packing, reading}
use Rattle.payload.proofs.Turns.{all_lt, read_turn}

-- what the test before it says
pub tried : (a b c d : ℕ) (t : Bool) → (eqb a b && leb c d && t) ≡ true → (a ≡ b) × (c ≤ d) × (t ≡ true)
tried a b c d t e =
    let (f, g) = (and-eq-true_iff (eqb a b && leb c d) t).0 e in
    let (x, y) = (and-eq-true_iff (eqb a b) (leb c d)).0 f in
    (eqb-true a b x, leb-true c d y, g)

-- ---- maps of which every parameter lies in eight bytes

-- whether the parameter at index i does not
abbrev pub outside : List ℕ → List ℕ → ℕ → Bool
outside ss ws i = not (lies_there (get_or ss i 0) (get_or ws i 0))

module _ (ss ws : List ℕ) (few : length ss ≤ 64) (each : None (outside ss ws) (length ss)) where
  inside-at : (i : ℕ) → i < length ss → lies_there (get_or ss i 0) (get_or ws i 0) ≡ true
  inside-at i l = not-false _ (each i l)

  ends_low : (n : ℕ) → n ≤ length ss → end_to ss ws n ≤ 64
  unfolding end_to
  ends_low zero l = omega arith
  ends_low (suc n) l = omega (arith, ends_low n (omega arith), there (get_or ss n 0) (get_or ws n 0) (inside-at n l))

  -- each has its place, and L is 8
  pub all_short : (unplaced_in ss ws ≡ 0) × (size_of ss ws ≡ 8)
  unfolding size_of bytes_for
  all_short = (none_unplaced ss ws placed, omega (arith, ends_low (length ss) (omega arith)))
    where
      placed : (i : ℕ) → i < length ss → Placed i (get_or ss i 0) (get_or ws i 0)
      placed i l = let p = there (get_or ss i 0) (get_or ws i 0) (inside-at i l) in record { position = omega arith; some = p.0; most = p.1; ends = omega arith }

-- ---- packed

-- whether the parameter at index i does not lie in eight bytes, or its number needs more than its width
abbrev pub stops : List ℕ → List ℕ → List ℕ → ℕ → Bool
stops ss ws vs i = outside ss ws i || needs_more (get_or vs i 0) (get_or ws i 0)

-- the eight bytes as one number, the numbers of the first n parameters laid
abbrev pub word_to : List ℕ → List ℕ → List ℕ → ℕ → ℕ
word_to ss ws vs n = from_bits (λ p. bit_after_all ss ws vs n p 1) 64

module _ (ss ws vs : List ℕ) where
  -- one number more is laid
  pub word_turn : (i word next : ℕ) → stops ss ws vs i ≡ false → word ≡ word_to ss ws vs i → next ≡ laid_on word (get_or ss i 0) (get_or ws i 0) (get_or vs i 0)
      → next ≡ word_to ss ws vs (i + 1)
  unfolding bit_after_all
  word_turn i word next q e f =
      let p = there (get_or ss i 0) (get_or ws i 0) (not-false _ (neither (outside ss ws i) _ q).0) in
      f
      ∙ rw (e, add-one) (word-laid (λ p. bit_after_all ss ws vs i p 1) (all_lt ss ws vs i) (get_or ss i 0) (get_or ws i 0) (get_or vs i 0) (lies_in_lem 8 (get_or ss i 0) (get_or ws i 0) p.1 p.2))

  -- all of them
  pub word-packed : (n word : ℕ) → n ≡ length ss → length ss ≤ 64 → length vs ≡ length ss → None (stops ss ws vs) n → word ≡ word_to ss ws vs n
      → (unplaced_in ss ws ≡ 0) × (size_of ss ws ≡ 8) × (too_wide_in ws vs ≡ 0) × (bytes_with (bit word) 8 ≡ packed ss ws vs)
  unfolding packed too_wide_in
  word-packed n word a few long none e = (short.0, short.1, fit, bytes)
    where
      each : (i : ℕ) → i < length ss → (outside ss ws i ≡ false) × (needs_more (get_or vs i 0) (get_or ws i 0) ≡ false)
      each i l = neither (outside ss ws i) _ (none i (omega arith))

      short : (unplaced_in ss ws ≡ 0) × (size_of ss ws ≡ 8)
      short = all_short ss ws few (λ i l. (each i l).0)

      fit : too_wide_in ws vs ≡ 0
      fit = lowest_none _ (length vs) (λ i l. (each i (omega arith)).1)

      bytes : bytes_with (bit word) 8 ≡ packed ss ws vs
      bytes =
          rw (short.1, ← a)
          (bytes_same _ _ 8 (λ p l. ap (λ (x : ℕ). bit x p) e ∙ bit-from (λ p. bit_after_all ss ws vs n p 1) (all_lt ss ws vs n) 64 p l))

  -- laid into a buffer, that is what packing makes
  pub short-packed : (held bytes : List ℕ) → unplaced_in ss ws ≡ 0 → size_of ss ws ≡ 8 → too_wide_in ws vs ≡ 0 → length vs ≡ length ss → 8 ≤ length held
      → bytes ≡ packed ss ws vs → left (Ok 8) (bytes ++ drop 8 held) ≡ packing ss ws vs held
  unfolding packing
  short-packed held bytes u z w long room e = simp (u, z, w, eq-eqb _ _ long, le-ltb _ _ room, ← e)

-- byte k of a number, and how the code has it of what is left above the bytes before
abbrev pub byte_of : ℕ → ℕ → ℕ
byte_of word k = from_bits (λ i. bit word (8 * k + i)) 8

pub byte-is : (word k above : ℕ) → above ≡ word / 2 ^ (8 * k) → above % 256 ≡ byte_of word k
byte-is word k above e = ap (λ (x : ℕ). x % 256) e ∙ sym (from_of (word / 2 ^ (8 * k)) 8) ∙ from-same _ _ 8 (λ i l. bit_shr word (8 * k) i)

-- its bytes, the lowest first
pub le_bytes : (word : ℕ) → to_le_bytes w64 word ≡ bytes_with (bit word) 8
unfolding bytes_with tabulate
le_bytes word =
    let b : (k above : ℕ) → above ≡ word / 2 ^ (8 * k) → above % 256 ≡ byte_of word k = byte-is word in
    rw (
      b 0 word (sym (div-one word)),
      b 1 (word / 2 ^ 8) refl,
      b 2 (word / 2 ^ 16) refl,
      b 3 (word / 2 ^ 24) refl,
      b 4 (word / 2 ^ 32) refl,
      b 5 (word / 2 ^ 40) refl,
      b 6 (word / 2 ^ 48) refl,
      b 7 (word / 2 ^ 56) refl,
    )

-- ---- read

-- what was taken says that each has its place, that L is 8, and that there is room
module _ (ss ws payload held : List ℕ) (word : ℕ) (few : length ss ≤ 64) (long : length payload ≡ 8) (e : word ≡ run_at payload 0 64) (y : taking ss ws (length held) ≡ true) where
  parts : (length ss ≤ length held) × (all_lie ss ws ≡ true)
  parts =
      let (f, g) = (and-eq-true_iff (not (ltb (length ws) (length ss) || ltb (length held) (length ss))) (all_lie ss ws)).0 y in
      (ltb-false _ _ (neither (ltb (length ws) (length ss)) _ (not-true _ f)).1, g)

  short : (unplaced_in ss ws ≡ 0) × (size_of ss ws ≡ 8)
  short = all_short ss ws few (λ i l. rw (lies_at ss ws parts.1 i l))

  numbers_cut : numbers_of word ss ws ≡ read_all ss ws payload
  unfolding numbers_of read_all
  numbers_cut = tabulate_equal _ _ (length ss) (λ i l. sym (one i l) ∙ read_turn ss ws short.0 i l payload _ (long ∙ sym short.1) (rw e (cut_is_read payload (get_or ss i 0) (get_or ws i 0) long)))
    where
      one : (i : ℕ) → i < length ss → cut_from word (get_or ss i 0) (get_or ws i 0) ≡ number_of word (get_or ss i 0) (get_or ws i 0)
      one i l = let p = there (get_or ss i 0) (get_or ws i 0) (lies_at ss ws parts.1 i l) in cut_lies word (get_or ss i 0) (get_or ws i 0) p.1 p.2

  -- that is what reading makes
  pub short_read : left (Ok (length ss)) (taken word ss ws held) ≡ reading ss ws payload held
  unfolding reading
  short_read = simp (short.0, short.1, eq-eqb _ _ long, le-ltb _ _ parts.0, ← numbers_cut, ← all_taken word ss ws held y _ refl)
