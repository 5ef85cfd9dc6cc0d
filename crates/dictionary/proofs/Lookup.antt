-- What a look-up gives, in any list of rows: the number and the width of the first row that has the SPN, or none and 0 where no row has it.
-- Assumes nothing.
use mathlib.Core.Path.{◌≡◌, refl}
use mathlib.Core.Bool.{Bool, true, false}
use mathlib.Core.List.{List, [], ◌∷◌}
use mathlib.Core.Option.{Option, none, some, map, some-injective, none-ne-some, some-ne-none}
use Prim.Native.Nat.{ℕ, zero, suc, ◌<◌, zero-le, suc-le-suc}
use native.Mathlib.Nat.{le_of_suc-le-suc, not-suc-le-zero}
use lib.Dec.{eqb}
use lib.ListN.{length}
use borrow.Author.Tests.{eqb-true, eqb-false}
use Rattle.rowrule.specs.declared.Row.{Row}
use Rattle.rowrule.specs.Rows.{row_in}
use Rattle.dictionary.specs.Dictionary.{width_in, number_in}

-- row k has the SPN
abbrev pub Has : List Row → ℕ → ℕ → Type 0
Has rows s k = (row_in rows k).spn ≡ s

-- none of the first n rows has it
abbrev pub Lacks : List Row → ℕ → ℕ → Type 0
Lacks rows s n = (k : ℕ) → k < n → Has rows s k → ⊥

-- a number and a width as a look-up gives them
pub data Looked (rows : List Row) (s : ℕ) : Option ℕ → ℕ → Type 0 where
  at : (i : ℕ) → i < length rows → Has rows s i → Lacks rows s i → Looked rows s (some i) (row_in rows i).width
  nowhere : Lacks rows s (length rows) → Looked rows s none 0

-- one row more in front, that has another SPN
module _ (r : Row) (rows : List Row) (s : ℕ) (other : r.spn ≡ s → ⊥) where
  past : (n : ℕ) → Lacks rows s n → Lacks (r ∷ rows) s (suc n)
  past n lacks zero l = other
  past n lacks (suc k) l = lacks k (le_of_suc-le-suc l)

  later : {o : Option ℕ} {w : ℕ} → Looked rows s o w → Looked (r ∷ rows) s (map suc o) w
  later (at i l e lacks) = at (suc i) (suc-le-suc l) e (past i lacks)
  later (nowhere lacks) = nowhere (past _ lacks)

pub looked : (rows : List Row) (s : ℕ) → Looked rows s (number_in rows s) (width_in rows s)
unfolding number_in width_in
looked [] s = nowhere (λ k l. absurd (not-suc-le-zero l))
looked (r ∷ rows) s = go (eqb r.spn s) refl (looked rows s)
  where
    go : (b : Bool) → eqb r.spn s ≡ b → Looked rows s (number_in rows s) (width_in rows s) → Looked (r ∷ rows) s (number_in (r ∷ rows) s) (width_in (r ∷ rows) s)
    go true e rest = rw e (at 0 (suc-le-suc zero-le) (eqb-true r.spn s e) (λ k l. absurd (not-suc-le-zero l)))
    go false e rest = rw e (later r rows s (eqb-false r.spn s e) rest)

-- a row found has the SPN, and its width is the one looked up
pub at_found : {rows : List Row} {s w i : ℕ} {o : Option ℕ} → Looked rows s o w → o ≡ some i → (i < length rows) × Has rows s i × (w ≡ (row_in rows i).width)
at_found {i = i} (at j l e lacks) q = rw (← some-injective j i q) (l, e, refl)
at_found {i = i} (nowhere lacks) q = absurd (none-ne-some i q)

-- where none is found no row has it, and the width is 0
pub at_none : {rows : List Row} {s w : ℕ} {o : Option ℕ} → Looked rows s o w → o ≡ none → Lacks rows s (length rows) × (w ≡ 0)
at_none (at j l e lacks) q = absurd (some-ne-none j q)
at_none (nowhere lacks) q = (lacks, refl)

-- where no row has it none is found
pub none_found : {rows : List Row} {s w : ℕ} {o : Option ℕ} → Looked rows s o w → Lacks rows s (length rows) → o ≡ none
none_found (at j l e lacks) no_row = absurd (no_row j l e)
none_found (nowhere lacks) no_row = refl
