-- The slots and the column: their rules, each computed once over all of them, and what they say of each. Assumes nothing.
use Prim.Native.Nat.{ℕ, zero, suc, ◌≤◌, ◌<◌}
use mathlib.Core.Path.{◌≡◌, refl, sym, ap, ◌∙◌}
use mathlib.Core.Bool.{Bool, true, false, ◌&&◌}
use mathlib.Core.List.{List, [], ◌∷◌, map}
use native.Mathlib.Nat.{le_of_suc-le-suc, not-suc-le-zero}
use native.Mathlib.Omega.{arith}
use lib.Dec.{T, leb, ltb, leb→le, ltb→lt}
use lib.ListN.{length, get_or, length-map}
use Rattle.slots.specs.declared.Slot.{Slot}
use Rattle.slots.specs.Slots.{slot, slot_count, slots, column, slot_at, within, ruled, pair, pairs}

-- a number for each of the dictionary's 140 rows
pub column-size : length column ≡ 140
unfolding column
column-size = refl

pub slots-size : length slots ≡ slot_count
unfolding slots
slots-size = refl

pub pairs-size : length pairs ≡ slot_count
unfolding pairs
pairs-size = length-map slots pair ∙ slots-size

column-within : T (within column)
unfolding within column
column-within = tt

slots-ruled : T (ruled slots)
unfolding ruled slots
slots-ruled = tt

both : (a b : Bool) → T (a && b) → T a × T b
both true b t = (tt, t)
both false b t = absurd t

within-at : (ns : List ℕ) → T (within ns) → (i : ℕ) → i < length ns → get_or ns i slot_count < slot_count
unfolding within
within-at [] t i l = absurd (not-suc-le-zero l)
within-at (n ∷ ns) t zero l = ltb→lt n slot_count (both (ltb n slot_count) (within ns) t).0
within-at (n ∷ ns) t (suc i) l = within-at ns (both (ltb n slot_count) (within ns) t).1 i (le_of_suc-le-suc l)

-- each row's number is that of a slot
pub column-at : (i : ℕ) → i < 140 → get_or column i slot_count < slot_count
column-at i l = within-at column column-within i (rw column-size l)

-- what the rule says of a slot
pub record Ruled (s : Slot) : Type 0 where
  pub some : 1 ≤ s.resolution
  pub fine : s.resolution ≤ 50000
  pub near : s.below ≤ 125000

ruled-at : (ss : List Slot) → T (ruled ss) → (i : ℕ) → i < length ss → Ruled (get_or ss i (slot 0 0))
unfolding ruled
ruled-at [] t i l = absurd (not-suc-le-zero l)
ruled-at (s ∷ ss) t zero l =
    let d = both (leb 1 s.resolution && leb s.resolution 50000 && leb s.below 125000) (ruled ss) t in
    let b = both (leb 1 s.resolution && leb s.resolution 50000) (leb s.below 125000) d.0 in
    let a = both (leb 1 s.resolution) (leb s.resolution 50000) b.0 in
    record { some = leb→le 1 s.resolution a.0; fine = leb→le s.resolution 50000 a.1; near = leb→le s.below 125000 b.1 }
ruled-at (s ∷ ss) t (suc i) l =
    ruled-at ss (both (leb 1 s.resolution && leb s.resolution 50000 && leb s.below 125000) (ruled ss) t).1 i (le_of_suc-le-suc l)

-- each row of the dictionary has a slot that obeys the rule
pub row-ruled : (i : ℕ) → i < 140 → Ruled (slot_at i)
row-ruled i l = ruled-at slots slots-ruled (get_or column i slot_count) (rw slots-size (column-at i l))

-- where there is no row: zeros
none_at : {A : Type 0} (xs : List A) (d : A) (i : ℕ) → length xs ≤ i → get_or xs i d ≡ d
none_at [] d i l = refl
none_at (x ∷ xs) d zero l = absurd (not-suc-le-zero l)
none_at (x ∷ xs) d (suc i) l = none_at xs d i (le_of_suc-le-suc l)

pub no_row : (i : ℕ) → 140 ≤ i → slot_at i ≡ slot 0 0
no_row i l = rw (none_at column slot_count i (rw column-size l)) (none_at slots (slot 0 0) slot_count (rw slots-size (omega arith)))

-- the pairs have the two numbers of each slot
at : (ss : List Slot) (i : ℕ) → (get_or (get_or (map pair ss) i []) 0 0 ≡ (get_or ss i (slot 0 0)).resolution) × (get_or (get_or (map pair ss) i []) 1 0 ≡ (get_or ss i (slot 0 0)).below)
at [] i = (refl, refl)
at (s ∷ ss) zero = (refl, refl)
at (s ∷ ss) (suc i) = at ss i

pub pairs-at : (i : ℕ) → (get_or (get_or pairs i []) 0 0 ≡ (get_or slots i (slot 0 0)).resolution) × (get_or (get_or pairs i []) 1 0 ≡ (get_or slots i (slot 0 0)).below)
unfolding pairs
pairs-at i = at slots i

-- the column as it is lent
module _ (ns : List ℕ) (n : ns ≡ column) where
  long : length ns ≡ 140
  long = ap length n ∙ column-size

  pub lent_in : (i : ℕ) → i < length ns → get_or ns i slot_count < slot_count
  lent_in i l = rw n (column-at i (omega (arith, long)))

  pub lent_none : (i : ℕ) → length ns ≤ i → slot 0 0 ≡ slot_at i
  lent_none i l = sym (no_row i (omega (arith, long)))
