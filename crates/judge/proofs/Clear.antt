-- The walk over all rules at once: where 5 and 6 need not be asked, the marks of the SPNs that were passed, and that no rule names a position where none is broken. Assumes
-- nothing.
use Prim.Native.Nat.{ℕ, zero, suc, ◌+◌, ◌%◌, ◌≤◌, ◌<◌}
use mathlib.Core.Path.{◌≡◌, refl, sym, ap, ◌∙◌}
use mathlib.Core.Bool.{Bool, true, false, cond, not, ◌&&◌, ◌||◌, true≢false}
use mathlib.Core.List.{List, []}
use native.Mathlib.Decide.{dec_lt, ℕ_discrete}
use native.Mathlib.Omega.{arith}
use borrow.Author.Tests.{lt-leb, lt-ltb, le-ltb, ne_eqb, eqb-false}
use lib.Dec.{eqb}
use lib.ListN.{length, get_or, set}
use lib.Seq.{get_or-set_same, get_or-set_other}
use Rattle.std.proofs.Common.{Some, None}
use Rattle.words.specs.First.{any}
use Rattle.words.proofs.Tests.{test}
use Rattle.words.proofs.Lowest.{None as Passing, neither, any_none, any-more, any-each, lowest_none}
use Rattle.places.specs.Place.{odd, shares_bit, end_in, end_to}
use Rattle.places.proofs.Place.{shares_after, end_runs, end_le, clear_after}
use Rattle.judge.specs.Judge.{mark, number_at, shortest, marked, unknown, repeated, not_above, uneven, overlaps, beyond}
use Rattle.judge.specs.Walk.{Wide, Passed, broken_by, crossing, broken}
use Rattle.judge.proofs.Rules.{skip}
use Rattle.judge.proofs.Slices.{plainly, Left}

-- the largest end of none
pub end_none : (starts widths : List ℕ) → 0 ≡ end_to starts widths 0
unfolding end_to
end_none starts widths = refl

-- ---- where 5 and 6 need not be asked
module _ (starts widths : List ℕ) where
  -- what starts at or after the largest end of the earlier ones, which all have a width, starts above the one before
  above : (i : ℕ) → Wide widths i → end_to starts widths i ≤ number_at starts i → not_above (number_at starts) i ≡ false
  unfolding not_above
  above zero w l = refl
  above (suc i) w l =
      lt-leb (number_at starts (suc i)) (number_at starts i)
      (omega (arith, l, end_le starts widths i (suc i) (omega arith), end_runs (number_at starts i) (number_at widths i), w i (omega arith)))

  -- and shares no bit with them
  pub not-crossing : (i : ℕ) → Wide widths i → end_to starts widths i ≤ number_at starts i → crossing (number_at starts) (number_at widths) i ≡ false
  not-crossing i w l = rw (above i w l) (clear_after starts widths i l)

  -- what starts below the largest end of the earlier ones is not the first
  pub not_first : (i : ℕ) → 0 < end_to starts widths i → 0 < i
  unfolding end_to
  not_first zero l = l
  not_first (suc i) l = omega arith

  -- whether the one at index k shares a bit with the one at index i
  abbrev shares_with : ℕ → ℕ → Bool
  shares_with i k = shares_bit (number_at starts k) (number_at widths k) (number_at starts i) (number_at widths i)

  -- where of the earlier ones only the last, at index j, may end after its start, 6 is asked of that one alone
  pub last_alone : (j i : ℕ) → i ≡ suc j → end_to starts widths j ≤ number_at starts i → overlaps (number_at starts) (number_at widths) i ≡ shares_with i j
  last_alone j i e l = ap (any (shares_with i)) e ∙ any-more (shares_with i) j ∙ rw (any_none (shares_with i) j none)
    where
      none : (k : ℕ) → k < j → shares_with i k ≡ false
      none k m = shares_after (number_at starts k) (number_at widths k) (number_at starts i) (number_at widths i) (omega (arith, l, end_le starts widths k j m))

-- ---- the rules that look at one parameter alone
module _ (s w : ℕ) where
  -- a narrow one is no odd one, and no mark
  pub broken_narrow : w ≤ 8 → eqb w 0 ≡ broken_by s w
  unfolding odd
  broken_narrow l = test (eqb w 0) (λ e. rw e) (λ n. rw (n, ne_eqb w mark (λ e. omega (arith, e)), le-ltb 8 w l))

  -- a wide one has a bit
  pub broken_wide : 8 < w → (eqb w mark || (not (eqb (w % 8) 0) && not (eqb (s % 8) 0))) ≡ broken_by s w
  unfolding odd
  broken_wide l = rw (ne_eqb w 0 (λ e. omega (arith, e, l)), lt-ltb 8 w l)

-- ---- the marks
module _ (seen : List Bool) (spns : List ℕ) (i : ℕ) (passed : Passed seen spns i) where
  -- one SPN more is passed
  pub pass_one : number_at spns i % 256 < length seen → Passed (set seen (number_at spns i % 256) true) spns (i + 1)
  pass_one h j l = go (ℕ_discrete (number_at spns j % 256) (number_at spns i % 256)) (dec_lt j i)
    where
      go : Dec (number_at spns j % 256 ≡ number_at spns i % 256) → Dec (j < i) → get_or (set seen (number_at spns i % 256) true) (number_at spns j % 256) false ≡ true
      go (yes e) d = rw e (get_or-set_same seen _ true false h)
      go (no e) (yes m) = get_or-set_other seen _ _ true false e ∙ passed j m
      go (no e) (no m) = absurd (e (ap (λ (k : ℕ). number_at spns k % 256) (omega arith)))

  -- an SPN whose mark is not set was not passed
  pub not_passed : get_or seen (number_at spns i % 256) false ≡ false → repeated (number_at spns) i ≡ false
  not_passed z = any_none _ i (λ j l. ne_eqb _ _ (λ e. true≢false (sym (passed j l) ∙ ap (λ (k : ℕ). get_or seen (k % 256) false) e ∙ z)))

-- ---- where none is broken

-- what the walk's answer says
pub walked : (b : Bool) (end most : ℕ) → Some end ≡ cond b None (Some most) → (b ≡ false) × (end ≡ most)
walked true end most e = cc
walked false end most e = (refl, cc)

-- what a position is that no rule but 7 applies to
pub record Unbroken (spns starts widths : List ℕ) (i : ℕ) : Type 0 where
  pub known : unknown (number_at widths) i ≡ false
  pub there : eqb (number_at widths i) mark ≡ false
  pub once : repeated (number_at spns) i ≡ false
  pub rising : not_above (number_at starts) i ≡ false
  pub even : uneven (number_at starts) (number_at widths) i ≡ false
  pub apart : overlaps (number_at starts) (number_at widths) i ≡ false

unbroken : (spns starts widths : List ℕ) (i : ℕ) → broken spns starts widths i ≡ false → Unbroken spns starts widths i
unbroken spns starts widths i e =
    let (ab, cd) = neither _ _ e in
    let (a, b) = neither _ _ ab in
    let (c, d) = neither _ _ cd in
    let (two, odd) = neither _ _ a in
    let (known, there) = neither _ _ two in
    record { known = known; there = there; once = b; rising = c; even = odd; apart = d }

-- so each has a width
pub wide : (spns starts widths : List ℕ) (i : ℕ) → Passing (broken spns starts widths) i → Wide widths i
wide spns starts widths i none j l =
    let some = eqb-false (number_at widths j) 0 (unbroken spns starts widths j (none j l)).known in
    omega (arith, some)

module _
    (n : ℕ) (transport : Bool) (spns starts widths : List ℕ) (long : n ≤ shortest spns starts widths)
    (none : any (broken spns starts widths) n ≡ false) (within : end_to starts widths n ≤ 14280)
  where
    each : (i : ℕ) → i < n → Unbroken spns starts widths i
    each i l = unbroken spns starts widths i (any-each (broken spns starts widths) n none i l)

    here : (i : ℕ) → i < n → marked (shortest spns starts widths) widths i ≡ false
    here i l = rw (lt-leb (shortest spns starts widths) i (omega arith)) (each i l).there

    ends : (i : ℕ) → i < n → beyond (number_at starts) (number_at widths) i ≡ false
    ends i l = le-ltb 14280 (end_in starts widths i) (omega (arith, within, end_le starts widths i n l))

    pub all_clear : Left n transport spns starts widths []
    all_clear = record {
      is =
          plainly n transport spns starts widths
          ∙ skip 2 _ _ _ (lowest_none _ n here)
          ∙ skip 3 _ _ _ (lowest_none _ n (λ i l. (each i l).known))
          ∙ skip 4 _ _ _ (lowest_none _ n (λ i l. (each i l).once))
          ∙ skip 5 _ _ _ (lowest_none _ n (λ i l. (each i l).rising))
          ∙ skip 9 _ _ _ (lowest_none _ n (λ i l. (each i l).even))
          ∙ skip 6 _ _ _ (lowest_none _ n (λ i l. (each i l).apart))
          ∙ skip 7 _ _ _ (lowest_none _ n ends);
    }
