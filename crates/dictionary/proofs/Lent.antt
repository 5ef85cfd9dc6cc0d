-- Looking up in rows that are lent, by halving: any rows that obey the rule; and whose rows they are, by the edition.
-- Assumes nothing.
use mathlib.Core.Path.{◌≡◌, sym, ap}
use mathlib.Core.List.{List}
use mathlib.Core.Bool.{Bool}
use mathlib.Core.Option.{none, some}
use Prim.Native.Nat.{ℕ, ◌≤◌, ◌<◌}
use native.Mathlib.Decide.{dec_lt}
use native.Mathlib.Omega.{arith}
use lib.Dec.{eqb, leb}
use lib.ListN.{length}
use borrow.Author.Tests.{eq-eqb, ne_eqb}
use Rattle.words.specs.First.{first}
use Rattle.words.specs.Halve.{halved}
use Rattle.words.proofs.First.{first_below}
use Rattle.words.proofs.Tests.{never}
use Rattle.words.proofs.Halve.{halved-key}
use Rattle.rowrule.specs.declared.Row.{Row}
use Rattle.rowrule.specs.Rows.{row_in, table, table2004, rows_by}
use Rattle.rowrule.proofs.Table.{size, size_2004, table-ruled, ruled_2004}
use Rattle.dictionary.specs.Dictionary.{width_in, width_by, widths_over, number_in, Lent}
use Rattle.dictionary.proofs.Lookup.{Has, looked, at_found, at_none, none_found}
use Rattle.dictionary.proofs.Rule.{rising, found}

-- ---- a search in rows that are lent

-- what halving asks of a row: its SPN is not below
abbrev pub not_below : List Row → ℕ → ℕ → Bool
not_below rows s i = leb s (row_in rows i).spn

module _ (rows : List Row) (lent : Lent rows) where
  -- a search that comes upon a row with the SPN has the look-up's number
  pub number_found : (s i : ℕ) → i < length rows → Has rows s i → some i ≡ number_in rows s
  number_found s i h has = sym (found 0 rows lent.1 s i (omega (arith)) has).0

  -- where the row that halving comes to has not the SPN, no row has it
  pub halved-nowhere : (s : ℕ) → ((row_in rows (halved (not_below rows s) (length rows))).spn ≡ s → ⊥) → none ≡ number_in rows s
  halved-nowhere s other =
      sym (none_found (looked rows s)
      (λ k h has. never (eq-eqb (row_in rows k).spn s has) (first_below (λ i. eqb (row_in rows i).spn s) (length rows) k (omega (arith, none_has)))))
    where
      rises : (i j : ℕ) → i ≤ j → j < length rows → (row_in rows i).spn ≤ (row_in rows j).spn
      rises i j l h =
          elim (dec_lt i j) [
            | yes b ↦ omega (arith, rising 0 rows lent.1 i j b (omega (arith)))
            | no b ↦ let e : i ≡ j = omega arith in rw e (omega arith)
          ]

      none_has : first (λ i. eqb (row_in rows i).spn s) (length rows) ≡ length rows
      none_has = rw (ne_eqb (row_in rows (halved (not_below rows s) (length rows))).spn s other) at (halved-key (λ i. (row_in rows i).spn) (length rows) s lent.0 rises)

  -- a row looked up is one of them, and the width is its own; where there is none the width is 0
  pub width_found : (s i : ℕ) → some i ≡ number_in rows s → (i < length rows) × (width_in rows s ≡ (row_in rows i).width)
  width_found s i e = let f = at_found (looked rows s) (sym e) in (omega (arith, f.0), f.2)

  pub width-nowhere : (s : ℕ) → none ≡ number_in rows s → width_in rows s ≡ 0
  width-nowhere s e = (at_none (looked rows s) (sym e)).1

-- ---- whose rows they are

pub rows_2004 : (edition : ℕ) → edition ≡ 2004 → table2004 ≡ rows_by edition
rows_2004 edition y = rw (eq-eqb edition 2004 y)

pub rows_2010 : (edition : ℕ) → (edition ≡ 2004 → ⊥) → table ≡ rows_by edition
rows_2010 edition n = rw (ne_eqb edition 2004 n)

-- what is laid by these rows is laid by that edition
pub laid_by : (rows : List Row) (edition : ℕ) (spns held : List ℕ) → rows ≡ rows_by edition → widths_over (width_in rows) spns held ≡ widths_over (width_by edition) spns held
unfolding width_by
laid_by rows edition spns held e = ap (λ (x : List Row). widths_over (width_in x) spns held) e

-- each of the code's tables may be lent
pub lent_2004 : (rows : List Row) → rows ≡ table2004 → Lent rows
lent_2004 rows e = rw e (omega (arith, size_2004), ruled_2004)

pub lent_2010 : (rows : List Row) → rows ≡ table → Lent rows
lent_2010 rows e = rw e (omega (arith, size), table-ruled)
