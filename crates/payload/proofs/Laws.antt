-- The laws of packing and reading (01, "Payload bits"): a number's bits stand at their places, every other bit is 1, reading gives the
-- packed numbers back, and packing what was read gives the payload with its unassigned bits set to 1. Assumes nothing.
use mathlib.Core.Path.{◌≡◌, refl, sym, ap, ◌∙◌}
use mathlib.Core.Bool.{Bool, true, false, cond, ◌||◌}
use mathlib.Core.List.{List}
use mathlib.Core.Logic.{⊎_elim}
use Prim.Native.Nat.{ℕ, zero, suc, ◌*◌, ◌≤◌, ◌<◌}
use native.Mathlib.Nat.{not-suc-le-zero, le_of_suc-le-suc, eq-or-lt_of_le, mod-eq_of_lt, le_refl}
use native.Mathlib.Omega.{arith}
use borrow.Author.Tests.{eqb-false}
use lib.Dec.{eqb}
use lib.ListN.{length, get_or}
use lib.Seq.{ext_get_or}
use Rattle.words.specs.First.{any}
use Rattle.words.proofs.Lists.{length-tabulate, get_tabulate}
use Rattle.words.proofs.Lowest.{neither, any-each, any-zero, any-more}
use Rattle.places.specs.Place.{bit_place, assigned_to, assigned, size_of, Apart}
use Rattle.bits.specs.Bits.{bit, bit_at, read_number}
use Rattle.bits.proofs.After.{after-out, after-at, after_one}
use Rattle.bits.proofs.Bits.{bit_at_lt, bytes_same, bit-from, from-same, from_of, bit-bytes, length-bytes}
use Rattle.payload.specs.Payload.{bit_after_all, packed, read_all, filled, Fit}
use Rattle.payload.proofs.Turns.{all_lt}

module _ (ss ws vs : List ℕ) where
  -- the place of bit k of number i, once the numbers of the first n are bit_after
  all_at : Apart ss ws → (i k : ℕ) → i < length ss → k < get_or ws i 0 → (n : ℕ) → i < n → n ≤ length ss
      → bit_after_all ss ws vs n (bit_place ss ws i k) 1 ≡ bit (get_or vs i 0) k
  unfolding bit_after_all
  all_at a i k hi hk zero l m = absurd (not-suc-le-zero l)
  all_at a i k hi hk (suc n) l m =
      ⊎_elim
      (λ (e : i ≡ n). rw (← e) (after-at (bit_place ss ws i) (bit (get_or vs i 0)) (get_or ws i 0) k _ hk (λ j q e. (a.once i i k j hi hi hk q e).1)))
      (λ q. after-out _ _ _ _ _ (λ j r e. let z = (a.once i n k j hi (omega arith) hk r e).0 in omega arith) ∙ all_at a i k hi hk n q (omega arith))
      (eq-or-lt_of_le (le_of_suc-le-suc l))

  all_other : (p n : ℕ) → assigned_to ss ws n p ≡ false → bit_after_all ss ws vs n p 1 ≡ 1
  unfolding bit_after_all assigned_to
  all_other p zero h = refl
  all_other p (suc n) h =
      let a = neither (assigned_to ss ws n p) _ (sym (any-more _ n) ∙ h) in
      after-out _ _ _ p _ (λ k l. eqb-false _ _ (any-each (λ k. eqb p (bit_place ss ws n k)) (get_or ws n 0) a.1 k l)) ∙ all_other p n a.0

  bit_is : (p : ℕ) → p < 8 * size_of ss ws → bit_at (packed ss ws vs) p ≡ bit_after_all ss ws vs (length ss) p 1
  unfolding packed
  bit_is p l = bit-bytes (λ p. bit_after_all ss ws vs (length ss) p 1) (all_lt ss ws vs (length ss)) (size_of ss ws) p l

  -- bit k of number i stands at its place
  pub packed-at : Apart ss ws → (i k : ℕ) → i < length ss → k < get_or ws i 0
      → bit_at (packed ss ws vs) (bit_place ss ws i k) ≡ bit (get_or vs i 0) k
  packed-at a i k hi hk = bit_is (bit_place ss ws i k) (a.inside i k hi hk) ∙ all_at a i k hi hk (length ss) hi (le_refl (length ss))

  -- every other bit of the L bytes is 1, in any map
  pub packed-other : (p : ℕ) → p < 8 * size_of ss ws → assigned ss ws p ≡ false → bit_at (packed ss ws vs) p ≡ 1
  packed-other p l h = bit_is p l ∙ all_other p (length ss) h

  pub packed-length : length (packed ss ws vs) ≡ size_of ss ws
  unfolding packed
  packed-length = length-bytes _ _

  -- reading a packed payload gives the numbers
  pub read_packed : Apart ss ws → Fit ss ws vs → read_all ss ws (packed ss ws vs) ≡ vs
  unfolding read_all read_number
  read_packed a f = ext_get_or 0 _ vs (length-tabulate _ _ ∙ sym f.count) (λ i l. number i (rw length-tabulate at l))
    where
      number : (i : ℕ) → i < length ss → get_or (read_all ss ws (packed ss ws vs)) i 0 ≡ get_or vs i 0
      number i l =
          get_tabulate _ (length ss) i l
          ∙ from-same _ (bit (get_or vs i 0)) (get_or ws i 0) (λ k m. packed-at a i k l m)
          ∙ from_of (get_or vs i 0) (get_or ws i 0) ∙ mod-eq_of_lt (f.each i l)

one_of : (a b : Bool) (x y : ℕ) → cond b x (cond a x y) ≡ cond (a || b) x y
one_of true true x y = refl
one_of true false x y = refl
one_of false b x y = refl

-- packing what was read gives the payload with its unassigned bits set to 1, in any map
module _ (ss ws payload : List ℕ) where
  read_bit : (i k : ℕ) → i < length ss → k < get_or ws i 0 → bit (get_or (read_all ss ws payload) i 0) k ≡ bit_at payload (bit_place ss ws i k)
  unfolding read_all read_number
  read_bit i k l m =
      ap (λ (x : ℕ). bit x k) (get_tabulate _ (length ss) i l) ∙ bit-from _ (λ j. bit_at_lt payload _) (get_or ws i 0) k m

  all_read : (n p : ℕ) → n ≤ length ss → bit_after_all ss ws (read_all ss ws payload) n p 1 ≡ cond (assigned_to ss ws n p) (bit_at payload p) 1
  unfolding bit_after_all assigned_to
  all_read zero p l = rw any-zero
  all_read (suc n) p l =
      rw (any-more, all_read n p (omega arith))
      (after_one (bit_place ss ws n) _ (get_or ws n 0) p _ (bit_at payload p) (λ k m e. read_bit n k l m ∙ ap (bit_at payload) (sym e))
      ∙ one_of (assigned_to ss ws n p) (any (λ k. eqb p (bit_place ss ws n k)) (get_or ws n 0)) (bit_at payload p) 1)

  pub packed_read : length payload ≡ size_of ss ws → packed ss ws (read_all ss ws payload) ≡ filled ss ws payload
  unfolding packed filled
  packed_read e = rw e (bytes_same _ _ (size_of ss ws) (λ p l. all_read (length ss) p (le_refl (length ss))))

  pub read_length : length (read_all ss ws payload) ≡ length ss
  unfolding read_all
  read_length = length-tabulate _ (length ss)
