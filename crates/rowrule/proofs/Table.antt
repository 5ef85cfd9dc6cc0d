-- The two tables: each has as many rows as it says and obeys the rule, each computed once over all its rows; and the pairs of numbers
-- that the rows are said by stand for them.
-- Assumes nothing.
use Prim.Native.Nat.{ℕ}
use mathlib.Core.Path.{◌≡◌, refl, ap}
use mathlib.Core.Bool.{Bool, true, false, cond}
use mathlib.Core.List.{List, [], ◌∷◌, map}
use lib.Dec.{T, eqb}
use lib.ListN.{length}
use Rattle.rowrule.specs.declared.Row.{Row}
use Rattle.rowrule.specs.Rows.{ruled, row_count, table, table2004, rows_by, pair, pairs, pairs2004, rows_in}

-- ---- the rule

pub size : length table ≡ row_count
unfolding table
size = refl

-- rising order, and widths of 1 to 32
pub table-ruled : T (ruled 0 table)
unfolding ruled table
table-ruled = tt

pub ruled_2004 : T (ruled 0 table2004)
unfolding ruled table2004
ruled_2004 = tt

pub size_2004 : length table2004 ≡ 12
unfolding table2004
size_2004 = refl

-- those of every edition obey the rule, and there are some
pub rows-ruled : (edition : ℕ) → T (ruled 0 (rows_by edition))
rows-ruled edition = go (eqb edition 2004)
  where
    go : (b : Bool) → T (ruled 0 (cond b table2004 table))
    go true = ruled_2004
    go false = table-ruled

-- ---- pairs of numbers

-- the pairs of rows stand for these rows
back : (rows : List Row) → rows_in (map pair rows) ≡ rows
back [] = refl
back (r ∷ rows) = ap (λ (l : List Row). r ∷ l) (back rows)

pub pairs_back : rows_in pairs ≡ table
unfolding pairs
pairs_back = back table

pub pairs_back_2004 : rows_in pairs2004 ≡ table2004
unfolding pairs2004
pairs_back_2004 = back table2004
