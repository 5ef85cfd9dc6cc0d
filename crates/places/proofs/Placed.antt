-- Parameters that have a place, and maps of which every parameter has one. Assumes nothing.
use mathlib.Core.Path.{◌≡◌, sym, ap, ◌∙◌}
use mathlib.Core.Bool.{false, ◌||◌}
use mathlib.Core.List.{List}
use Prim.Native.Nat.{ℕ, zero, suc, ◌+◌, ◌*◌, ◌≤◌, ◌<◌}
use native.Mathlib.Decide.{dec_lt}
use native.Mathlib.Omega.{arith}
use borrow.Author.Tests.{le-ltb, leb-false, ltb-false, lt-leb, ne_eqb}
use lib.Dec.{leb, ltb}
use lib.ListN.{length, get_or, get_or-eq_default}
use Rattle.places.specs.Place.{end_of, end_in, end_to, bytes_for, size_of, lacks_place, unplaced_in, end_placed}
use Rattle.words.proofs.Lowest.{neither, lowest_none, lowest-each}
use Rattle.places.proofs.Place.{end_le, end_in_lem}

-- ---- a parameter that has a place
pub record Placed (i s w : ℕ) : Type 0 where
  pub position : i < 64
  pub some : 1 ≤ w
  pub most : w ≤ 32
  pub ends : end_of s w ≤ 14280

pub placed_one : (i s w : ℕ) → lacks_place i s w ≡ false → Placed i s w
unfolding lacks_place
placed_one i s w e =
    let a = neither (leb 64 i || ltb w 1 || ltb 32 w) (ltb 14280 (end_of s w)) e in
    let b = neither (leb 64 i || ltb w 1) (ltb 32 w) a.0 in
    let d = neither (leb 64 i) (ltb w 1) b.0 in
    record { position = leb-false _ _ d.0; some = ltb-false _ _ d.1; most = ltb-false _ _ b.1; ends = ltb-false _ _ a.1 }

one_placed : (i s w : ℕ) → Placed i s w → lacks_place i s w ≡ false
unfolding lacks_place
one_placed i s w h = rw (lt-leb 64 i h.position, le-ltb w 1 h.some, le-ltb 32 w h.most) (le-ltb _ _ h.ends)

-- ---- a map whose parameters all have one
module _ (ss ws : List ℕ) (u : unplaced_in ss ws ≡ 0) where
  placed_at : (i : ℕ) → i < length ss → Placed i (get_or ss i 0) (get_or ws i 0)
  unfolding unplaced_in
  placed_at i l = placed_one i (get_or ss i 0) (get_or ws i 0) (lowest-each _ (length ss) u i l)

  pub placed_count : length ss ≤ 64
  placed_count = elim (dec_lt 64 (length ss)) [ yes l ↦ omega (arith, placed_at 64 l) | no l ↦ omega arith ]

  pub placed_widths : length ss ≤ length ws
  placed_widths =
      elim (dec_lt (length ws) (length ss)) [
        | yes l ↦ omega (arith, placed_at (length ws) l, get_or-eq_default ws 0 {n = length ws} (omega arith))
        | no l ↦ omega arith
      ]

  ends_most : (n : ℕ) → n ≤ length ss → end_to ss ws n ≤ 14280
  unfolding end_to
  ends_most zero l = omega arith
  ends_most (suc n) l = omega (arith, ends_most n (omega arith), placed_at n l)

  pub size-most : size_of ss ws ≤ 1785
  unfolding size_of bytes_for
  size-most = omega (arith, ends_most (length ss) (omega arith))

  -- each number has at most 32 bits, and lies in the L bytes
  pub placed_in : (i : ℕ) → i < length ss → (get_or ws i 0 ≤ 32) × (end_in ss ws i ≤ 8 * size_of ss ws)
  placed_in i l = omega (arith, placed_at i l, end_le ss ws i (length ss) l, end_in_lem ss ws)

-- the end of a map whose parameters all have a place
pub end_all : (ss ws : List ℕ) → unplaced_in ss ws ≡ 0 → end_to ss ws (length ss) ≡ end_placed ss ws
unfolding end_placed
end_all ss ws e = rw e

-- what a walk over a map found that stopped at index i, and one that stopped nowhere
pub walk_stopped : (ss ws : List ℕ) (i : ℕ) → i + 1 ≡ unplaced_in ss ws → (0 < i + 1) × (i + 1 ≡ unplaced_in ss ws) × (end_placed ss ws ≡ 0)
unfolding end_placed
walk_stopped ss ws i e = (omega arith, e, rw (ne_eqb (unplaced_in ss ws) 0 (λ z. omega arith)))

pub walk-done : (ss ws : List ℕ) (end i : ℕ) → 0 ≡ unplaced_in ss ws → end ≡ end_to ss ws i → i ≡ length ss → (unplaced_in ss ws ≡ 0) × (end ≡ end_placed ss ws)
walk-done ss ws end i e b n = (sym e, b ∙ ap (end_to ss ws) n ∙ end_all ss ws (sym e))

-- L of a map whose parameters all have a place, from that end
pub size-measured : (ss ws : List ℕ) (end bytes : ℕ) → unplaced_in ss ws ≡ 0 → end ≡ end_placed ss ws → bytes ≡ bytes_for end → bytes ≡ size_of ss ws
unfolding size_of
size-measured ss ws end bytes u e b = b ∙ ap bytes_for (e ∙ sym (end_all ss ws u))

-- a map whose parameters all have a place lacks none
pub none_unplaced : (ss ws : List ℕ) → ((i : ℕ) → i < length ss → Placed i (get_or ss i 0) (get_or ws i 0)) → unplaced_in ss ws ≡ 0
unfolding unplaced_in
none_unplaced ss ws h = lowest_none _ (length ss) (λ i l. one_placed i (get_or ss i 0) (get_or ws i 0) (h i l))
