-- The rule of a dictionary at each row: the test of all rows, turned into what it says of any of them. Over any list of rows that passes
-- it; the width of any SPN is then at most 32, and 0 just where no row has it, and whoever finds a row that has the SPN has found the one.
-- Assumes nothing.
use mathlib.Core.Path.{◌≡◌, refl, sym, ◌∙◌}
use mathlib.Core.Bool.{Bool, true, false, ◌&&◌}
use mathlib.Core.List.{List, [], ◌∷◌}
use mathlib.Core.Option.{Option, some}
use Prim.Native.Nat.{ℕ, zero, suc, ◌≤◌, ◌<◌}
use native.Mathlib.Nat.{le_of_suc-le-suc, not-suc-le-zero}
use native.Mathlib.Decide.{dec_lt}
use native.Mathlib.Omega.{arith}
use lib.Dec.{T, leb, leb→le}
use lib.ListN.{length}
use Rattle.rowrule.specs.declared.Row.{Row}
use Rattle.rowrule.specs.Rows.{row_in, ruled}
use Rattle.dictionary.specs.Dictionary.{width_in, number_in}
use Rattle.dictionary.proofs.Lookup.{Has, Lacks, Looked, at, nowhere, looked}

both : (a b : Bool) → T (a && b) → T a × T b
both true b t = (tt, t)
both false b t = absurd t

-- what the test says of the first row, and of the rest
record First (least : ℕ) (r : Row) (rows : List Row) : Type 0 where
  from : least ≤ r.spn
  wide : 1 ≤ r.width
  narrow : r.width ≤ 32
  rest : T (ruled (suc r.spn) rows)

first : (least : ℕ) (r : Row) (rows : List Row) → T (ruled least (r ∷ rows)) → First least r rows
unfolding ruled
first least r rows t =
    let d = both (leb least r.spn && leb 1 r.width && leb r.width 32) _ t in
    let b = both (leb least r.spn && leb 1 r.width) _ d.0 in
    let a = both (leb least r.spn) _ b.0 in
    record {
      from = leb→le least r.spn a.0;
      wide = leb→le 1 r.width a.1;
      narrow = leb→le r.width 32 b.1;
      rest = d.1;
    }

-- each SPN is at least the least
lower : (least : ℕ) (rows : List Row) → T (ruled least rows) → (k : ℕ) → k < length rows → least ≤ (row_in rows k).spn
lower least [] t k h = absurd (not-suc-le-zero h)
lower least (r ∷ rows) t zero h = (first least r rows t).from
lower least (r ∷ rows) t (suc k) h =
    let f = first least r rows t in
    omega (arith, lower (suc r.spn) rows f.rest k (le_of_suc-le-suc h))

-- the SPNs rise
pub rising : (least : ℕ) (rows : List Row) → T (ruled least rows) → (i j : ℕ) → i < j → j < length rows → (row_in rows i).spn < (row_in rows j).spn
rising least [] t i j l h = absurd (not-suc-le-zero h)
rising least (r ∷ rows) t i zero l h = absurd (not-suc-le-zero l)
rising least (r ∷ rows) t zero (suc j) l h = lower (suc r.spn) rows (first least r rows t).rest j (le_of_suc-le-suc h)
rising least (r ∷ rows) t (suc i) (suc j) l h =
    rising (suc r.spn) rows (first least r rows t).rest i j (le_of_suc-le-suc l) (le_of_suc-le-suc h)

-- each width is 1 to 32
pub widths : (least : ℕ) (rows : List Row) → T (ruled least rows) → (k : ℕ) → k < length rows → (1 ≤ (row_in rows k).width) × ((row_in rows k).width ≤ 32)
widths least [] t k h = absurd (not-suc-le-zero h)
widths least (r ∷ rows) t zero h = let f = first least r rows t in (f.wide, f.narrow)
widths least (r ∷ rows) t (suc k) h = widths (suc r.spn) rows (first least r rows t).rest k (le_of_suc-le-suc h)

module _ (least : ℕ) (rows : List Row) (t : T (ruled least rows)) where
  -- each SPN stands once
  pub once : (i j : ℕ) → i < length rows → j < length rows → (row_in rows i).spn ≡ (row_in rows j).spn → i ≡ j
  once i j hi hj e = go (dec_lt i j) (dec_lt j i)
    where
      go : Dec (i < j) → Dec (j < i) → i ≡ j
      go (yes l) g = absurd (omega (arith, rising least rows t i j l hj))
      go (no n) (yes l) = absurd (omega (arith, rising least rows t j i l hi))
      go (no n) (no m) = omega arith

  -- a row that has the SPN is the one looked up, however it was found
  pub found : (s m : ℕ) → m < length rows → Has rows s m → (number_in rows s ≡ some m) × (width_in rows s ≡ (row_in rows m).width)
  found s m h has = go (looked rows s)
    where
      go : {o : Option ℕ} {w : ℕ} → Looked rows s o w → (o ≡ some m) × (w ≡ (row_in rows m).width)
      go (at i l e lacks) = rw (once i m l h (e ∙ sym has)) (refl, refl)
      go (nowhere lacks) = absurd (lacks m h has)

  -- no SPN has a width above 32
  pub width-most_in : (s : ℕ) → width_in rows s ≤ 32
  width-most_in s = go (looked rows s)
    where
      go : {o : Option ℕ} {w : ℕ} → Looked rows s o w → w ≤ 32
      go (at i l e lacks) = (widths least rows t i l).1
      go (nowhere lacks) = omega arith

  -- a width of 0 says that no row has the SPN
  pub width_none_in : (s : ℕ) → width_in rows s ≡ 0 → Lacks rows s (length rows)
  width_none_in s z k h has = omega (arith, (found s k h has).1, (widths least rows t k h).0)
