-- One row put into the memory: whose it is, what that does to each pair's session, and what holds of the memory of every run. Assumes nothing.
use Prim.Native.Nat.{ℕ, ◌+◌, ◌*◌, ◌≤◌, ◌<◌}
use native.Mathlib.Omega.{arith}
use mathlib.Core.Path.{◌≡◌, ap, ◌∙◌}
use mathlib.Core.Bool.{true, false}
use mathlib.Core.Option.{none, some}
use mathlib.Core.List.{List}
use borrow.Author.Tests.{eqb-true, eq-eqb, ne_eqb, lt-ltb, le-ltb}
use lib.Dec.{eqb}
use lib.ListN.{length, get_or, length-replicate}
use Rattle.words.specs.Rows.{row_at, put_at}
use Rattle.words.specs.Slots.{Put, slot, view, Distinct}
use Rattle.words.proofs.First.{first_none, first_holds}
use Rattle.words.proofs.Rows.{row_at-put_at, row_at-put_at-other, length-put_at, put_at-same, zeros}
use Rattle.words.proofs.Slots.{at_slot, below-slot, view-other, view_own, view-gone, put_distinct, not_else}
use Rattle.words.proofs.Tests.{never}
use Rattle.transport.specs.Rows.{Memory, memory, fresh_heads, holder_word, Row, row, row_of, row_is, row_with, session_in, meant, session_of}
use Rattle.transport.proofs.Words.{head_holder}
use Rattle.arrivals.specs.Calls.{Fresh}

-- ---- whose row it is

pub holds : (r : Row) (pair : ℕ) → row_is r pair ≡ true → holder_word r.head ≡ pair + 1
holds r pair e = eqb-true (holder_word r.head) (pair + 1) e

pub held_by_lem : (r : Row) (pair : ℕ) → holder_word r.head ≡ pair + 1 → row_is r pair ≡ true
held_by_lem r pair e = eq-eqb (holder_word r.head) (pair + 1) e

-- another pair's, or nobody's
pub not-held_by : (r : Row) (pair : ℕ) → (holder_word r.head ≡ pair + 1 → ⊥) → row_is r pair ≡ false
not-held_by r pair ne = ne_eqb (holder_word r.head) (pair + 1) ne

module _ (m : Memory) where
  -- the row that is found for a pair
  pub is_at : (pair : ℕ) → row_with m.heads (pair + 1) < 8 → row_is (row_of m (row_with m.heads (pair + 1))) pair ≡ true
  unfolding row_with
  is_at pair = at_slot row_is 8 (row_of m) pair

  pub under : (pair k : ℕ) → k < row_with m.heads (pair + 1) → row_is (row_of m k) pair ≡ false
  unfolding row_with
  under pair = below-slot row_is 8 (row_of m) pair

  -- and the one that is found for a new one
  pub free-at : row_with m.heads 0 < 8 → holder_word (row_of m (row_with m.heads 0)).head ≡ 0
  unfolding row_with
  free-at h = eqb-true _ 0 (first_holds (λ i. eqb (holder_word (row_at 4 m.heads i)) 0) 8 h)

  -- a pair's session, by its row
  pub session_at : (pair : ℕ) → row_with m.heads (pair + 1) < 8 → session_of m pair ≡ some (session_in (row_of m (row_with m.heads (pair + 1))))
  unfolding row_with view
  session_at pair h = rw (lt-ltb (slot row_is 8 (row_of m) pair) 8 h)

  pub session_none : (pair : ℕ) → 8 ≤ row_with m.heads (pair + 1) → session_of m pair ≡ none
  unfolding row_with view
  session_none pair h = rw (le-ltb (slot row_is 8 (row_of m) pair) 8 h)

-- ---- one row put

-- the memory with another row in the place of row i
abbrev pub with_row : Memory → ℕ → List ℕ → List ℕ → Memory
with_row m i head bytes = memory (put_at 4 m.heads i head) (put_at 1785 m.bytes i bytes)

module _ (m : Memory) (long : length m.heads ≡ 32) (wide : length m.bytes ≡ 14280) (i : ℕ) (h : i < 8)
    (head bytes : List ℕ) (four : length head ≡ 4) (most : length bytes ≡ 1785) where
  pub put : Put 8 (row_of m) (row_of (with_row m i head bytes)) i (row head bytes)
  put = record {
    inside = h;
    at =
        let p = row_at-put_at 4 m.heads i (omega arith) head four in
        let q = row_at-put_at 1785 m.bytes i (omega arith) bytes most in
        λ j. row (p j) (q j);
    off = λ k l ne.
        let p = row_at-put_at-other 4 m.heads i (omega arith) head four k ne (omega arith) in
        let q = row_at-put_at-other 1785 m.bytes i (omega arith) bytes most k ne (omega arith) in
        λ j. row (p j) (q j);
  }

  -- the session of each pair: it is that row's, it is gone, or it is as it was
  pub put_own : (pair : ℕ) → ((k : ℕ) → k < i → row_is (row_of m k) pair ≡ false) → row_is (row head bytes) pair ≡ true
      → session_of (with_row m i head bytes) pair ≡ some (session_in (row head bytes))
  put_own pair below own = ap meant (view_own row_is 8 (row_of m) (row_of (with_row m i head bytes)) i (row head bytes) put pair below own)

  pub put-gone : (pair : ℕ) → ((k : ℕ) → k < 8 → (k ≡ i → ⊥) → row_is (row_of m k) pair ≡ false) → row_is (row head bytes) pair ≡ false
      → session_of (with_row m i head bytes) pair ≡ none
  put-gone pair others own = ap meant (view-gone row_is 8 (row_of m) (row_of (with_row m i head bytes)) i (row head bytes) put pair others own)

  pub put_other : (pair : ℕ) → row_is (row_of m i) pair ≡ false → row_is (row head bytes) pair ≡ false → session_of (with_row m i head bytes) pair ≡ session_of m pair
  put_other pair was now = ap meant (view-other row_is 8 (row_of m) (row_of (with_row m i head bytes)) i (row head bytes) put pair was now)

-- where the bytes stay, the memory has another head alone
pub same_bytes : (m : Memory) → length m.bytes ≡ 14280 → (i : ℕ) → i < 8 → (head : List ℕ) → with_row m i head (row_at 1785 m.bytes i) ≡ memory (put_at 4 m.heads i head) m.bytes
same_bytes m wide i h head = ap (memory (put_at 4 m.heads i head)) (put_at-same 1785 m.bytes i (omega arith))

-- ---- what holds of the memory of every run: it is as long as it was, and no pair has two rows

pub record Sane (m : Memory) : Type 0 where
  pub long : length m.heads ≡ 32
  pub wide : length m.bytes ≡ 14280
  pub apart : Distinct row_is 8 (row_of m)

pub sane_put : (m : Memory) (s : Sane m) (i : ℕ) → i < 8 → (head bytes : List ℕ) → length head ≡ 4 → length bytes ≡ 1785
    → ((pair k : ℕ) → k < 8 → (k ≡ i → ⊥) → row_is (row head bytes) pair ≡ true → row_is (row_of m k) pair ≡ true → ⊥) → Sane (with_row m i head bytes)
sane_put m s i h head bytes four most only = record {
  long = length-put_at 4 m.heads i (omega (arith, s.long)) head four ∙ s.long;
  wide = length-put_at 1785 m.bytes i (omega (arith, s.wide)) bytes most ∙ s.wide;
  apart = put_distinct row_is 8 (row_of m) (row_of (with_row m i head bytes)) i (row head bytes) (put m s.long s.wide i h head bytes four most) s.apart only;
}

-- no other row is a pair's, once one is
pub no_second : (m : Memory) → Sane m → (pair i : ℕ) → i < 8 → row_is (row_of m i) pair ≡ true → (k : ℕ) → k < 8 → (k ≡ i → ⊥) → row_is (row_of m k) pair ≡ false
no_second m s pair i h own k l ne = not_else row_is 8 (row_of m) s.apart pair i h own k l ne

-- ---- fresh memory

fresh-long : length fresh_heads ≡ 32
unfolding fresh_heads
fresh-long = length-replicate {A = ℕ} 32 0

fresh-word : (k : ℕ) → get_or fresh_heads k 0 ≡ 0
unfolding fresh_heads
fresh-word k = zeros 32 k

module _ (m : Memory) (f : Fresh m) where
  heads-long : length m.heads ≡ 32
  heads-long = ap length f.heads ∙ fresh-long

  nobodys : (i : ℕ) → i < 8 → holder_word (row_of m i).head ≡ 0
  nobodys i h = head_holder m.heads heads-long i h ∙ ap (λ (l : List ℕ). get_or l (i * 4) 0) f.heads ∙ fresh-word (i * 4)

  none_is : (i : ℕ) → i < 8 → (pair : ℕ) → row_is (row_of m i) pair ≡ false
  none_is i h pair = not-held_by (row_of m i) pair (λ e. omega (arith, e, nobodys i h))

  pub sane_fresh : Sane m
  unfolding Distinct
  sane_fresh = record {
    long = heads-long;
    wide = f.bytes;
    apart = λ pair j k jl kl x y. never x (none_is j jl pair);
  }

  nowhere : (pair : ℕ) → row_with m.heads (pair + 1) ≡ 8
  unfolding row_with
  nowhere pair = first_none (λ k. row_is (row_of m k) pair) 8 (λ k l. none_is k l pair)

  pub fresh_none : (pair : ℕ) → session_of m pair ≡ none
  fresh_none pair = session_none m pair (omega (arith, nowhere pair))
