-- Laws of what a number means: which row gives it, that scaling is exact, with its sign, and within 63 bits, for any number of any SPN. Assumes nothing.
use Prim.Native.Nat.{ℕ, zero, suc, ◌*◌, ◌-◌, ◌^◌, ◌≤◌, ◌<◌}
use mathlib.Core.Path.{◌≡◌, refl, sym, ap, ◌∙◌}
use mathlib.Core.Option.{Option, none, some}
use native.Mathlib.Omega.{arith}
use native.Mathlib.Nat.{mul-le-mul}
use lib.Dec.{eqb, ltb}
use lib.IntN.{ℤ, pos, negsuc, neg_ℤ, ◌+ℤ◌, ◌-ℤ◌, +ℤ_idl}
use lib.Signed.{mag}
use mir.Syntax.{w64}
use mir.Val.{SFits, to_z, of_z}
use mir.ValLaws.{to_z-of_z}
use borrow.Author.Tests.{eq-eqb, ne_eqb, lt-ltb, le-ltb}
use Rattle.rowrule.specs.Rows.{row_count, row_at}
use Rattle.dictionary.specs.Dictionary.{width_of, number_of}
use Rattle.dictionary.proofs.Table.{number_here, number-nowhere, number_some, width_absent}
use Rattle.words.proofs.Tests.{test}
use Rattle.slots.specs.declared.Slot.{Slot}
use Rattle.slots.specs.Slots.{slot_at}
use Rattle.slots.proofs.Slots.{Ruled, row-ruled}
use Rattle.states.specs.States.{kind_of, state_by, state_of}
use Rattle.meaning.specs.Meaning.{slot_in, slot_of, meaning_of, scaled_of}

-- ---- differences

-- a difference of two numbers below 2^63 fits
pub less_fits : (a b : ℕ) → a < 2 ^ 63 → b < 2 ^ 63 → mag (pos a -ℤ pos b) < 2 ^ 63
less_fits a zero l m = omega (arith, l)
less_fits a (suc b) l m = test (ltb a (suc b)) (λ y. rw y (omega (arith, m))) (λ n. rw n (omega (arith, l)))

-- it keeps its sign
pub less_above : (a b : ℕ) → b ≤ a → pos a +ℤ neg_ℤ (pos b) ≡ pos (a - b)
less_above a zero l = ap pos (omega arith)
less_above a (suc b) l = rw (le-ltb a (suc b) l)

pub less_below : (a b : ℕ) → a < b → pos a +ℤ neg_ℤ (pos b) ≡ neg_ℤ (pos (b - a))
less_below a zero l = absurd (omega (arith, l))
less_below a (suc b) l =
    let e : suc b - suc a ≡ b - a = omega arith in
    let f : suc b - a ≡ suc (b - a) = omega (arith, l) in
    rw (lt-ltb a (suc b) l) (ap negsuc e ∙ sym (ap (λ (n : ℕ). neg_ℤ (pos n)) f))

-- ---- resolution and offset

-- those of an SPN's row, and zeros where it has none, are small
slot_small : (spn : ℕ) (o : Option ℕ) → o ≡ number_of spn → ((slot_in o).resolution ≤ 50000) × ((slot_in o).below ≤ 125000)
slot_small spn none e = (omega arith, omega arith)
slot_small spn (some i) e = let r = row-ruled i (number_some spn i e).0 in (r.fine, r.near)

pub slot_bounds : (spn : ℕ) → ((slot_of spn).resolution ≤ 50000) × ((slot_of spn).below ≤ 125000)
unfolding slot_of
slot_bounds spn = slot_small spn (number_of spn) refl

-- so the product of a number of 32 bits and a resolution is far below 2^62
pub raised_small : (n r : ℕ) → n < 2 ^ 32 → r ≤ 50000 → n * r ≤ 2 ^ 62
raised_small n r l m = let k : n ≤ 2 ^ 32 = omega arith in let h = mul-le-mul k m in omega (arith, h)

-- each of the 140 rows gives its SPN a resolution of at least 1
pub row-slot : (i : ℕ) → i < row_count → (slot_of (row_at i).spn ≡ slot_at i) × Ruled (slot_at i)
unfolding slot_of
row-slot i l = (ap slot_in (sym (number_here (row_at i).spn i l refl)), row-ruled i l)

-- an SPN that the dictionary does not have: all 0
pub unknown : (spn : ℕ) → width_of spn ≡ 0 → meaning_of spn ≡ record { offset = pos 0; resolution = 0; width = 0; kind = 0 }
unfolding meaning_of slot_of kind_of
unknown spn z = rw (z, ← number-nowhere spn (width_absent spn z))

pub unknown_scaled : (spn number : ℕ) → width_of spn ≡ 0 → scaled_of spn number ≡ record { value = pos 0; kind = 0; state = 0 }
unfolding scaled_of kind_of state_by
unknown_scaled spn number z = let e : number * 0 ≡ 0 = omega arith in rw (z, unknown spn z, e)

-- ---- scaled numbers

module _ (spn number : ℕ) where
  -- exact where the number is valid
  pub scaled_valid : state_of (width_of spn) number ≡ 0 → (scaled_of spn number).value ≡ pos (number * (slot_of spn).resolution) +ℤ neg_ℤ (pos (slot_of spn).below)
  unfolding scaled_of meaning_of
  scaled_valid e = rw (eq-eqb (state_of (width_of spn) number) 0 e)

  -- 0 where it is not
  pub scaled_other : (state_of (width_of spn) number ≡ 0 → ⊥) → (scaled_of spn number).value ≡ pos 0
  unfolding scaled_of
  scaled_other n = rw (ne_eqb (state_of (width_of spn) number) 0 n)

  -- below 0 exactly as far as the offset takes it
  pub scaled_below : state_of (width_of spn) number ≡ 0 → number * (slot_of spn).resolution < (slot_of spn).below
      → (scaled_of spn number).value ≡ neg_ℤ (pos ((slot_of spn).below - number * (slot_of spn).resolution))
  scaled_below e l = scaled_valid e ∙ less_below _ _ l

  pub scaled_above : state_of (width_of spn) number ≡ 0 → (slot_of spn).below ≤ number * (slot_of spn).resolution
      → (scaled_of spn number).value ≡ pos (number * (slot_of spn).resolution - (slot_of spn).below)
  scaled_above e l = scaled_valid e ∙ less_above _ _ l

-- ---- what the calls hand on

-- a difference laid as 64 bits with a sign, and read again
pub kept : (a b : ℕ) → a ≤ 2 ^ 62 → b ≤ 2 ^ 62 → (z : ℤ) → z ≡ pos a -ℤ pos b → to_z w64 (of_z w64 z) ≡ pos a -ℤ pos b
kept a b l m z e = rw e (to_z-of_z w64 (pos a -ℤ pos b) (record { sfits = less_fits a b (omega (arith, l)) (omega (arith, m)) }))

module _ (spn i w k : ℕ) (s : Slot) (number_is : some i ≡ number_of spn) (width_is : w ≡ width_of spn) (kind-is : k ≡ kind_of w) (slot_is : s ≡ slot_at i) where
  -- the slot found is the SPN's, and small
  slot_found : s ≡ slot_of spn
  unfolding slot_of
  slot_found = slot_is ∙ ap slot_in number_is

  pub found_small : (s.resolution ≤ 50000) × (s.below ≤ 125000)
  found_small = rw slot_found (slot_bounds spn)

  pub meaning_given : (z : ℤ) → z ≡ pos 0 -ℤ pos s.below → record { offset = to_z w64 (of_z w64 z); resolution = s.resolution; width = w; kind = k } ≡ meaning_of spn
  unfolding meaning_of
  meaning_given z e = rw (kept 0 s.below (omega arith) (omega (arith, found_small.1)) z e, +ℤ_idl (neg_ℤ (pos s.below)), kind-is, width_is, slot_found)

  module _ (number state : ℕ) (state-is : state ≡ state_by k number) where
    own : state ≡ state_of (width_of spn) number
    own = state-is ∙ ap (λ (x : ℕ). state_by x number) (kind-is ∙ ap kind_of width_is)

    pub scaled_none : (state ≡ 0 → ⊥) → record { value = pos 0; kind = k; state = state } ≡ scaled_of spn number
    unfolding scaled_of
    scaled_none n = rw (kind-is, width_is, own, ne_eqb (state_of (width_of spn) number) 0 (λ e. n (own ∙ e)))

    pub scaled_given : state ≡ 0 → number < 2 ^ 32 → (z : ℤ) → z ≡ pos (number * s.resolution) -ℤ pos s.below
        → record { value = to_z w64 (of_z w64 z); kind = k; state = state } ≡ scaled_of spn number
    unfolding scaled_of meaning_of
    scaled_given e l z g =
        rw (
          kept (number * s.resolution) s.below (raised_small number s.resolution l found_small.0) (omega (arith, found_small.1)) z g,
          kind-is,
          width_is,
          own,
          eq-eqb (state_of (width_of spn) number) 0 (sym own ∙ e),
          slot_found,
        )

-- ---- what whoever hands them on relies on: offset and value fit 64 bits with a sign

pub offset-fits : (spn : ℕ) → SFits w64 (meaning_of spn).offset
unfolding meaning_of
offset-fits spn =
    let h = less_fits 0 (slot_of spn).below (omega arith) (omega (arith, (slot_bounds spn).1)) in
    record { sfits = rw (+ℤ_idl (neg_ℤ (pos (slot_of spn).below))) at h }

pub value_fits : (spn number : ℕ) → number < 2 ^ 32 → SFits w64 (scaled_of spn number).value
unfolding scaled_of meaning_of
value_fits spn number l =
    test (eqb (state_of (width_of spn) number) 0)
    (λ y. rw y (record {
      sfits = less_fits (number * (slot_of spn).resolution) (slot_of spn).below
          (omega (arith, raised_small number (slot_of spn).resolution l (slot_bounds spn).0)) (omega (arith, (slot_bounds spn).1));
    }))
    (λ n. rw n (record { sfits = omega arith }))
