-- The look-ups in 002's rows, and in those of an edition: the laws of any list of rows, at the tables.
-- Assumes nothing.
use mathlib.Core.Path.{◌≡◌, refl, sym, ap}
use mathlib.Core.Option.{none, some, some-injective, none-ne-some, some-ne-none}
use Prim.Native.Nat.{ℕ, ◌≤◌, ◌<◌}
use native.Mathlib.Omega.{arith}
use Rattle.words.specs.First.{first}
use Rattle.words.specs.Halve.{turns}
use Rattle.rowrule.specs.Rows.{table, row_count, row_at, rows_by}
use Rattle.rowrule.proofs.Table.{size, table-ruled, rows-ruled}
use Rattle.std.specs.Prelude.{Option as Maybe, Some, None}
use Rattle.dictionary.specs.Dictionary.{width_of, width_by, number_of, found_row}
use Rattle.dictionary.proofs.Lookup.{Has, Lacks, looked, at_found, none_found}
use Rattle.dictionary.proofs.Rule.{rising, widths, once, found, width-most_in, width_none_in}

-- rising order, each SPN once, and the width, at each row
pub table-rising : (i j : ℕ) → i < j → j < row_count → (row_at i).spn < (row_at j).spn
table-rising i j l h = rising 0 table table-ruled i j l (omega (arith, size))

pub table-once : (i j : ℕ) → i < row_count → j < row_count → (row_at i).spn ≡ (row_at j).spn → i ≡ j
table-once i j hi hj = once 0 table table-ruled i j (omega (arith, size)) (omega (arith, size))

pub table-widths : (k : ℕ) → k < row_count → (1 ≤ (row_at k).width) × ((row_at k).width ≤ 32)
table-widths k h = widths 0 table table-ruled k (omega (arith, size))

-- of no edition has an SPN a width above 32: all that a law over maps needs of the dictionary
pub width-most : (edition s : ℕ) → width_by edition s ≤ 32
unfolding width_by
width-most edition s = width-most_in 0 (rows_by edition) (rows-ruled edition) s

-- a width of 0 says that the SPN isn't in the dictionary
pub width_absent : (s : ℕ) → width_of s ≡ 0 → Lacks table s row_count
unfolding width_of
width_absent s z k h = width_none_in 0 table table-ruled s z k (omega (arith, size))

-- a search that comes upon a row with the SPN, or that has seen that no row has it, has the look-up's number
pub number_here : (s i : ℕ) → i < row_count → Has table s i → some i ≡ number_of s
unfolding number_of
number_here s i h has = sym (found 0 table table-ruled s i (omega (arith, size)) has).0

pub number-nowhere : (s : ℕ) → Lacks table s row_count → none ≡ number_of s
unfolding number_of
number-nowhere s lacks = sym (none_found (looked table s) (λ k h. lacks k (omega (arith, size))))

-- a row looked up has the SPN, and its width
pub number_some : (s i : ℕ) → some i ≡ number_of s → (i < row_count) × Has table s i × (width_of s ≡ (row_at i).width)
unfolding number_of width_of
number_some s i e = let f = at_found (looked table s) (sym e) in (omega (arith, size), f.1, f.2)

-- 140 rows take 8 turns, and 12 take 4
pub table-turns : turns row_count ≡ 8
unfolding turns first
table-turns = refl

pub turns_2004 : turns 12 ≡ 4
unfolding turns first
turns_2004 = refl

-- ---- two editions

-- that of 2010 is 002's
pub newer : (s : ℕ) → width_by 2010 s ≡ width_of s
unfolding width_by width_of
newer s = refl

-- two answers that say the same are the same
pub found_one : (a b : Maybe ℕ) → found_row a ≡ found_row b → a ≡ b
found_one (Some i) (Some j) e = ap Some (some-injective i j e)
found_one (Some i) None e = absurd (some-ne-none i e)
found_one None (Some j) e = absurd (none-ne-some j e)
found_one None None e = refl
