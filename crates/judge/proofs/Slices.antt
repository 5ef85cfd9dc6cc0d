-- The judgement of what slices stand for, by the numbers that they hold. Assumes nothing.
use Prim.Native.Nat.{ℕ, zero, suc, ◌≤◌, ◌<◌, max}
use mathlib.Core.Path.{◌≡◌, refl, sym, ap, ap₂, ◌∙◌}
use mathlib.Core.Bool.{Bool, false, cond}
use mathlib.Core.Option.{Option, none, some}
use mathlib.Core.List.{List, [], ◌∷◌}
use native.Mathlib.Decide.{dec_lt}
use native.Mathlib.Omega.{arith}
use borrow.Author.Tests.{eqb-true, eqb-false, le-leb, lt-leb}
use lib.Dec.{eqb}
use lib.ListN.{length}
use Rattle.std.proofs.Common.{Some, None}
use Rattle.answers.specs.Answers.{Judged, at}
use Rattle.words.specs.Lists.{tabulate}
use Rattle.words.specs.First.{lowest}
use Rattle.places.specs.Place.{end_of, end_in, end_to, bytes_for, size_of}
use Rattle.words.proofs.Lowest.{lowest-each, lowest_none, lowest_equal}
use Rattle.words.proofs.Lists.{length-tabulate, get_tabulate}
use Rattle.judge.specs.Judge.{Param, missing, unknown, repeated, not_above, uneven, overlaps, beyond, wrong_transport, first_named, size_over, judge_over, mark, shortest, marked, number_at, in_slices}
use Rattle.words.proofs.Tests.{test, never}
use Rattle.judge.specs.Walk.{found}
use Rattle.judge.proofs.Search.{is_found, not_found}
use Rattle.judge.proofs.Rules.{skip, stop}
use Rattle.judge.proofs.Within.{judged-same}

-- ---- what slices say of a position, by index
module _ (spns starts widths : List ℕ) (i : ℕ) where
  -- that all three have
  pub slices_at : i < shortest spns starts widths
      → in_slices spns starts widths (suc i)
      ≡ cond (eqb (number_at widths i) mark) none (some (record { spn = number_at spns i; start = number_at starts i; width = number_at widths i }))
  slices_at l = rw (lt-leb (shortest spns starts widths) i l)

  -- past the end of one
  pub slices_past : shortest spns starts widths ≤ i → in_slices spns starts widths (suc i) ≡ none
  slices_past l = rw (le-leb (shortest spns starts widths) i l)

-- where none of n positions is missing, all three slices have them
pub reaches : (spns starts widths : List ℕ) (n : ℕ) → lowest (marked (shortest spns starts widths) widths) n ≡ 0 → (n ≤ length spns) × (n ≤ length starts) × (n ≤ length widths)
reaches spns starts widths n e = go (shortest spns starts widths) refl e
  where
    go : (long : ℕ) → shortest spns starts widths ≡ long → lowest (marked long widths) n ≡ 0 → (n ≤ length spns) × (n ≤ length starts) × (n ≤ length widths)
    go long q f =
        elim (dec_lt long n) [
          | yes l ↦ never {b = marked long widths long} (rw (le-leb long long (omega arith))) (lowest-each (marked long widths) n f long l)
          | no l ↦ omega arith
        ]

-- ---- the largest end
end_equal : (ss ws xs ys : List ℕ) (n : ℕ) → ((i : ℕ) → i < n → end_in ss ws i ≡ end_in xs ys i) → end_to ss ws n ≡ end_to xs ys n
unfolding end_to
end_equal ss ws xs ys zero h = refl
end_equal ss ws xs ys (suc n) h = ap₂ max (end_equal ss ws xs ys n (λ i l. h i (omega arith))) (h n (omega arith))

-- ---- the rules
module _ (n : ℕ) (transport : Bool) (spns starts widths : List ℕ) where
  -- 3 to 7 in order, 9 before 6, by what the slices hold
  abbrev from3 : List Judged
  from3 =
      at 3 (lowest (unknown (number_at widths)) n)
      ∷ at 4 (lowest (repeated (number_at spns)) n)
      ∷ at 5 (lowest (not_above (number_at starts)) n)
      ∷ at 9 (lowest (uneven (number_at starts) (number_at widths)) n)
      ∷ at 6 (lowest (overlaps (number_at starts) (number_at widths)) n)
      ∷ at 7 (lowest (beyond (number_at starts) (number_at widths)) n)
      ∷ []

  abbrev absent : ℕ → Bool
  absent = marked (shortest spns starts widths) widths

  -- and 2 before them
  abbrev pub from2 : List Judged
  from2 = at 2 (lowest absent n) ∷ from3

  -- 8 or 0
  abbrev pub plain_last : Judged
  plain_last = at (cond (wrong_transport transport (bytes_for (end_to starts widths n))) 8 0) 0

  missing-is : lowest (missing (in_slices spns starts widths)) n ≡ lowest absent n
  missing-is = lowest_equal _ _ n (λ i l. test (absent i) (λ t. rw t) (λ f. rw f))

  -- where nothing is missing, this stands at every position
  abbrev whole : ℕ → Option Param
  whole zero = none
  whole (suc i) = some (record { spn = number_at spns i; start = number_at starts i; width = number_at widths i })

  size_is : size_over n whole ≡ bytes_for (end_to starts widths n)
  unfolding size_of
  size_is =
      let ss = tabulate (number_at starts) n in
      let ws = tabulate (number_at widths) n in
      ap (λ (k : ℕ). bytes_for (end_to ss ws k)) (length-tabulate (number_at starts) n)
      ∙ ap bytes_for (end_equal ss ws starts widths n (λ i l. ap₂ end_of (get_tabulate (number_at starts) n i l) (get_tabulate (number_at widths) n i l)))

  whole_is : ((i : ℕ) → i < n → absent i ≡ false) → judge_over n transport whole ≡ first_named from2 plain_last
  unfolding judge_over
  whole_is here =
      let none-missing = lowest_none (missing whole) n (λ i l. refl) ∙ sym (lowest_none absent n here) in
      λ k. first_named (at 2 (none-missing k) ∷ from3) (at (cond (wrong_transport transport (size_is k)) 8 0) 0)

  pub plainly : judge_over n transport (in_slices spns starts widths) ≡ first_named from2 plain_last
  unfolding judge_over
  plainly =
      test (eqb (lowest absent n) 0)
      (λ t. let here = lowest-each absent n (eqb-true _ 0 t) in
      judged-same n (in_slices spns starts widths) whole (λ i l. rw (here i l)) transport ∙ whole_is here)
      (λ f. let q = eqb-false (lowest absent n) 0 f in stop 2 _ _ _ _ (sym missing-is) q ∙ sym (stop 2 _ _ _ _ refl q))

-- ---- rule after rule

infixl 50 ◌past◌
-- the rules before a place in the list name no position, so the judgement is that of the rest
pub record Left (n : ℕ) (transport : Bool) (spns starts widths : List ℕ) (rs : List Judged) : Type 0 where
  pub is : judge_over n transport (in_slices spns starts widths) ≡ first_named rs (plain_last n transport spns starts widths)

-- at first all rules are left
pub all_left : (n : ℕ) (transport : Bool) (spns starts widths : List ℕ) → Left n transport spns starts widths (from2 n transport spns starts widths)
all_left n transport spns starts widths = record { is = plainly n transport spns starts widths }

module _ {n : ℕ} {transport : Bool} {spns starts widths : List ℕ} where
  -- a search that finds no position: its rule is passed
  pub ◌past◌ : {k x : ℕ} {rs : List Judged} → Left n transport spns starts widths (at k x ∷ rs) → None ≡ found x → Left n transport spns starts widths rs
  ◌past◌ {k} {x} {rs} left e = record { is = left.is ∙ skip k x rs _ (not_found x e) }

  -- one that finds a position: that is the judgement
  pub decides : {k x : ℕ} {rs : List Judged} {p : ℕ} → Left n transport spns starts widths (at k x ∷ rs) → Some p ≡ found x → at k p ≡ judge_over n transport (in_slices spns starts widths)
  decides {k} {x} {rs} {p} left e = let (q, h) = is_found p x e in sym (left.is ∙ stop k p x rs _ q h)

  -- where no rule names a position, the transport flag and L decide
  pub last-is : Left n transport spns starts widths [] → (end : ℕ) (j : Judged) → end ≡ end_to starts widths n
      → j ≡ at (cond (wrong_transport transport (bytes_for end)) 8 0) 0 → j ≡ judge_over n transport (in_slices spns starts widths)
  unfolding first_named
  last-is left end j e f = f ∙ ap (λ (x : ℕ). at (cond (wrong_transport transport (bytes_for x)) 8 0) 0) e ∙ sym left.is
