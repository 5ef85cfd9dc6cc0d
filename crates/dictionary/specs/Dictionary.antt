-- The dictionary (01, "A set and its judgement"): what a look-up gives, over any list of rows, in the rows that 002 gives, and in those of an edition (02, Req 10). Their
-- rule is that of the crate rowrule.
-- Assumes nothing.
use Rattle.std.specs.Prelude.{ℕ, suc, min, ◌≤◌, cond, List, [], ◌∷◌, ◌++◌, T, eqb, length, get_or, drop}
use Rattle.std.specs.Prelude.{Option as Maybe, Some, None}
use Rattle.std.proofs.Math.Option.{Option, none, some, map}
use Rattle.words.specs.Lists.{tabulate}
use Rattle.rowrule.specs.declared.Row.{Row}
use Rattle.rowrule.specs.Rows.{ruled, table, rows_by}
use Rattle.dictionary.specs.declared.Entry.{Entry}

-- "The width of a parameter comes from a constant dictionary": that of the row that has the SPN, the first if several have it, and 0 if
-- none has it
unfoldable pub width_in : List Row → ℕ → ℕ
width_in [] s = 0
width_in (r ∷ rows) s = cond (eqb r.spn s) r.width (width_in rows s)

-- the number of that row, counted from 0, and none if none has it
unfoldable pub number_in : List Row → ℕ → Option ℕ
number_in [] s = none
number_in (r ∷ rows) s = cond (eqb r.spn s) (some 0) (map suc (number_in rows s))

-- the look-ups in 002's rows
unfoldable pub width_of : ℕ → ℕ
width_of s = width_in table s

unfoldable pub number_of : ℕ → Option ℕ
number_of s = number_in table s

-- "use that edition's widths": the dictionary of an edition, which is 000's of 2004 and 002's of any other number
unfoldable pub width_by : ℕ → ℕ → ℕ
width_by edition s = width_in (rows_by edition) s

-- as far as a list of SPNs and the list that their widths are laid over both reach
abbrev pub reach : List ℕ → List ℕ → ℕ
reach spns held = min (length spns) (length held)

-- the widths of a list of SPNs by a dictionary, 0 where it hasn't one, laid over the start of a list as far as both reach; past that it holds what
-- it held
unfoldable pub widths_over : (ℕ → ℕ) → List ℕ → List ℕ → List ℕ
widths_over width_of spns held = tabulate (λ i. width_of (get_or spns i 0)) (reach spns held) ++ drop (reach spns held) held

-- what each case of the code's answers says: the number of a row, or none
abbrev pub found_row : Maybe ℕ → Option ℕ
found_row (Some i) = some i
found_row None = none

-- and of an entry the number of its row, and the width, 0 where there is none
abbrev pub entry_row : Maybe Entry → Option ℕ
entry_row (Some e) = some e.row
entry_row None = none

abbrev pub entry_width : Maybe Entry → ℕ
entry_width (Some e) = e.width
entry_width None = 0

-- ---- rows that are lent to a search: some, that obey the rule

abbrev pub Lent : List Row → Type 0
Lent rows = (1 ≤ length rows) × T (ruled 0 rows)
