-- The laws of rows, once for every width (specs/Rows.antt). Assumes nothing.
use mathlib.Core.Path.{◌≡◌, refl, sym, ap, ◌∙◌}
use mathlib.Core.List.{List, ◌++◌}
use mathlib.Core.Bool.{Bool, false}
use Prim.Native.Nat.{ℕ, zero, suc, ◌+◌, ◌*◌, ◌-◌, ◌≤◌, ◌<◌}
use native.Mathlib.Nat.{mul-le-mul_right, suc-mul, add-zero}
use native.Mathlib.Decide.{dec_lt}
use native.Mathlib.Omega.{arith}
use borrow.Author.Count.{below_more}
use borrow.Author.Tests.{eq-eqb, ne_eqb}
use lib.Dec.{eqb}
use lib.ListN.{length, take, drop, get_or, length-append, length-take, length-drop, take-append-drop, get_or-append, set, replicate}
use lib.Seq.{take_at, drop_at, length-take-le, get_or-take, get_or-drop, ext_get_or, take-set-le, take-set-lt, drop-set-lt, drop-set-add}
use Rattle.words.specs.First.{first}
use Rattle.words.specs.Rows.{row_at, put_at}
use Rattle.words.proofs.First.{first-at, first_none}
use Rattle.words.proofs.Lowest.{None}

-- a part that is lent from i * w to i * w + w is row i, and comes back as a row that is put
pub span : (a w : ℕ) → a + w - a ≡ w
span a w = omega arith

pub part_is-row : (w : ℕ) (t : List ℕ) (i : ℕ) → take (i * w + w - i * w) (drop (i * w) t) ≡ row_at w t i
unfolding row_at
part_is-row w t i = rw (span (i * w) w)

pub back_is-put : (w : ℕ) (t : List ℕ) (i : ℕ) (r : List ℕ) → take (i * w) t ++ (r ++ drop (i * w + w - i * w) (drop (i * w) t)) ≡ put_at w t i r
unfolding put_at
back_is-put w t i r = rw (span (i * w) w)

-- a lower row ends before a higher one begins
pub rows_apart : (w i j : ℕ) → i < j → i * w + w ≤ j * w
rows_apart w i j h = omega (arith, suc-mul i w, mul-le-mul_right w h)

module _ (w : ℕ) (t : List ℕ) (i : ℕ) (fits : i * w + w ≤ length t) where
  pub length-row_at : length (row_at w t i) ≡ w
  unfolding row_at
  length-row_at = simp (length-take, length-drop) (omega arith)

  pub row_at_get_d : (k : ℕ) → k < w → get_or (row_at w t i) k 0 ≡ get_or t (i * w + k) 0
  unfolding row_at
  row_at_get_d k h = rw (get_or-take, get_or-drop)

  pub row_at-head : 0 < w → get_or (row_at w t i) 0 0 ≡ get_or t (i * w) 0
  row_at-head h = rw add-zero at (row_at_get_d 0 h)

-- another section, so that the laws above can be cited at another row and another list
module _ (w : ℕ) (t : List ℕ) (i : ℕ) (fits : i * w + w ≤ length t) where
  module _ (r : List ℕ) (long : length r ≡ w) where
    pub length-put_at : length (put_at w t i r) ≡ length t
    unfolding put_at
    length-put_at = simp (length-append, length-take, length-drop) (omega arith)

    pub row_at-put_at : row_at w (put_at w t i r) i ≡ r
    unfolding row_at put_at
    row_at-put_at =
        rw (drop_at (take (i * w) t) (r ++ drop w (drop (i * w) t)) (i * w) (length-take-le (i * w) t (omega arith)))
        (take_at r (drop w (drop (i * w) t)) w long)

    get_d_below : (m : ℕ) → m < i * w → get_or (put_at w t i r) m 0 ≡ get_or t m 0
    unfolding put_at
    get_d_below m h =
        get_or-append (take (i * w) t) (r ++ drop w (drop (i * w) t)) 0 m (simp length-take (omega arith)) ∙ get_or-take (i * w) t m 0 h

    get_d_past : (x : ℕ) → get_or (put_at w t i r) (i * w + (w + x)) 0 ≡ get_or t (i * w + (w + x)) 0
    unfolding put_at
    get_d_past x =
        sym (get_or-drop (i * w) (put_at w t i r) (w + x) 0)
        ∙ ap (λ (l : List ℕ). get_or l (w + x) 0) (drop_at (take (i * w) t) (r ++ drop w (drop (i * w) t)) (i * w) (length-take-le (i * w) t (omega arith)))
        ∙ sym (get_or-drop w (r ++ drop w (drop (i * w) t)) x 0)
        ∙ ap (λ (l : List ℕ). get_or l x 0) (drop_at r (drop w (drop (i * w) t)) w long)
        ∙ get_or-drop w (drop (i * w) t) x 0
        ∙ get_or-drop (i * w) t (w + x) 0

    get_d_above : (m : ℕ) → i * w + w ≤ m → get_or (put_at w t i r) m 0 ≡ get_or t m 0
    get_d_above m h =
        let e : i * w + (w + (m - (i * w + w))) ≡ m = omega arith in
        rw e at (get_d_past (m - (i * w + w)))

    -- another row is as it was
    pub row_at-put_at-other : (j : ℕ) → (j ≡ i → ⊥) → j * w + w ≤ length t → row_at w (put_at w t i r) j ≡ row_at w t j
    row_at-put_at-other j ne room =
        ext_get_or 0 (row_at w (put_at w t i r) j) (row_at w t j)
        (length-row_at w (put_at w t i r) j room' ∙ sym (length-row_at w t j room))
        (λ k l. at k (rw (length-row_at w (put_at w t i r) j room') at l))
      where
        room' : j * w + w ≤ length (put_at w t i r)
        room' = rw length-put_at room

        here : (k : ℕ) → k < w → Dec (j < i) → get_or (put_at w t i r) (j * w + k) 0 ≡ get_or t (j * w + k) 0
        here k l (yes h) = get_d_below (j * w + k) (omega (arith, rows_apart w j i h))
        here k l (no h) = get_d_above (j * w + k) (omega (arith, rows_apart w i j (omega arith)))

        at : (k : ℕ) → k < w → get_or (row_at w (put_at w t i r) j) k 0 ≡ get_or (row_at w t j) k 0
        at k l =
            row_at_get_d w (put_at w t i r) j room' k l ∙ here k l (dec_lt j i) ∙ sym (row_at_get_d w t j room k l)

  -- a row put back as it was
  pub put_at-same : put_at w t i (row_at w t i) ≡ t
  unfolding row_at put_at
  put_at-same = ap (λ (l : List ℕ). take (i * w) t ++ l) (take-append-drop w (drop (i * w) t)) ∙ take-append-drop (i * w) t

-- a word stored in row i
pub set_in_row : (w : ℕ) (t : List ℕ) (i k v : ℕ) → k < w → set t (i * w + k) v ≡ put_at w t i (set (row_at w t i) k v)
unfolding row_at put_at
set_in_row w t i k v h =
    sym (take-append-drop (i * w) (set t (i * w + k) v))
    ∙ rw (take-set-le (i * w) t (i * w + k) v (omega arith), drop-set-add)
    (ap (λ (l : List ℕ). take (i * w) t ++ l) (sym (take-append-drop w (set (drop (i * w) t) k v)) ∙ rw (take-set-lt, drop-set-lt)))

pub set-row-head : (w : ℕ) (t : List ℕ) (i v : ℕ) → 0 < w → set t (i * w) v ≡ put_at w t i (set (row_at w t i) 0 v)
set-row-head w t i v h = rw add-zero at (set_in_row w t i 0 v h)

-- words that are all 0
pub zeros : (n i : ℕ) → ◌≡◌ {A = ℕ} (get_or (replicate n 0) i 0) 0
zeros zero i = refl
zeros (suc n) zero = refl
zeros (suc n) (suc i) = zeros n i

-- ---- a loop that looks for the first of n rows whose first word is y

module _ (w n : ℕ) (t : List ℕ) (long : length t ≡ n * w) (some : 0 < w) (y : ℕ) where
  -- row i begins with y
  abbrev pub Begins : ℕ → Bool
  Begins i = eqb (get_or (row_at w t i) 0 0) y

  -- the code compares the word where the row begins
  seen : (i : ℕ) → i < n → Begins i ≡ eqb (get_or t (i * w) 0) y
  seen i h = ap (λ (x : ℕ). eqb x y) (row_at-head w t i (omega (arith, long, rows_apart w i n h)) some)

  -- it is y: row i is the first
  pub row_hit : (i : ℕ) → i < n → None Begins i → get_or t (i * w) 0 ≡ y → i ≡ first Begins n
  row_hit i h passed e = sym (first-at Begins n i h passed (seen i h ∙ eq-eqb _ _ e))

  -- it is not: on to the next
  pub row_turn : (i : ℕ) → i < n → None Begins i → (get_or t (i * w) 0 ≡ y → ⊥) → None Begins (i + 1)
  row_turn i h passed e = below_more (λ (k : ℕ). Begins k ≡ false) i passed (seen i h ∙ ne_eqb _ _ e)

  -- there is none
  pub row_miss : (i : ℕ) → n ≤ i → None Begins i → n ≡ first Begins n
  row_miss i h passed = sym (first_none Begins n (λ k l. passed k (omega arith)))
