-- Only the positions 1 to n count for a judgement: where two maps agree on them, their rules, L and judgement are the same.
-- Assumes nothing.
use Prim.Native.Nat.{ℕ, zero, suc, ◌%◌, ◌<◌}
use mathlib.Core.Path.{◌≡◌, refl, ap, ap₂}
use mathlib.Core.Bool.{Bool, cond, not, ◌&&◌}
use mathlib.Core.Option.{Option}
use mathlib.Core.List.{[], ◌∷◌}
use native.Mathlib.Omega.{arith}
use lib.Dec.{eqb, leb, ltb}
use Rattle.answers.specs.Answers.{at}
use Rattle.words.specs.Lists.{tabulate}
use Rattle.places.specs.Place.{odd, end_of, shares_bit, size_of}
use Rattle.judge.specs.Judge.{Param, is_none, spn_in, start_in, width_in, spn_at, start_at, width_at, missing, unknown, repeated, not_above, uneven, overlaps, beyond, wrong_transport, rules, first_named, size_over, judge_over}
use Rattle.words.proofs.Lists.{tabulate_equal}
use Rattle.words.proofs.Lowest.{any_equal, lowest_equal}

module _ (n : ℕ) (ps qs : ℕ → Option Param) (same : (i : ℕ) → i < n → ps (suc i) ≡ qs (suc i)) where
  spn-same : (i : ℕ) → i < n → spn_at ps i ≡ spn_at qs i
  spn-same i l = ap spn_in (same i l)

  start-same : (i : ℕ) → i < n → start_at ps i ≡ start_at qs i
  start-same i l = ap start_in (same i l)

  width_same : (i : ℕ) → i < n → width_at ps i ≡ width_at qs i
  width_same i l = ap width_in (same i l)

  pub starts-same : tabulate (start_at ps) n ≡ tabulate (start_at qs) n
  starts-same = tabulate_equal _ _ n start-same

  pub widths-same : tabulate (width_at ps) n ≡ tabulate (width_at qs) n
  widths-same = tabulate_equal _ _ n width_same

  pub size_same : size_over n ps ≡ size_over n qs
  size_same = ap₂ size_of starts-same widths-same

  missing-same : (i : ℕ) → i < n → missing ps i ≡ missing qs i
  missing-same i l = ap is_none (same i l)

  unknown-same : (i : ℕ) → i < n → unknown (width_at ps) i ≡ unknown (width_at qs) i
  unknown-same i l = λ k. eqb (width_same i l k) 0

  repeated-same : (i : ℕ) → i < n → repeated (spn_at ps) i ≡ repeated (spn_at qs) i
  repeated-same i l = any_equal _ _ i (λ j m. λ k. eqb (spn-same j (omega arith) k) (spn-same i l k))

  not_above-same : (i : ℕ) → i < n → not_above (start_at ps) i ≡ not_above (start_at qs) i
  unfolding not_above
  not_above-same zero l = refl
  not_above-same (suc i) l = λ k. leb (start-same (suc i) l k) (start-same i (omega arith) k)

  uneven-same : (i : ℕ) → i < n → uneven (start_at ps) (width_at ps) i ≡ uneven (start_at qs) (width_at qs) i
  uneven-same i l = λ k. odd (width_same i l k) && not (eqb (start-same i l k % 8) 0)

  overlaps-same : (i : ℕ) → i < n → overlaps (start_at ps) (width_at ps) i ≡ overlaps (start_at qs) (width_at qs) i
  overlaps-same i l = any_equal _ _ i one
    where
      one : (j : ℕ) → j < i → shares_bit (start_at ps j) (width_at ps j) (start_at ps i) (width_at ps i) ≡ shares_bit (start_at qs j) (width_at qs j) (start_at qs i) (width_at qs i)
      one j m =
          let h : j < n = omega arith in
          λ k. shares_bit (start-same j h k) (width_same j h k) (start-same i l k) (width_same i l k)

  beyond-same : (i : ℕ) → i < n → beyond (start_at ps) (width_at ps) i ≡ beyond (start_at qs) (width_at qs) i
  beyond-same i l = λ k. ltb 14280 (end_of (start-same i l k) (width_same i l k))

  pub rules-same : rules n ps ≡ rules n qs
  rules-same =
      λ k. at 2 (lowest_equal _ _ n missing-same k)
      ∷ at 3 (lowest_equal _ _ n unknown-same k)
      ∷ at 4 (lowest_equal _ _ n repeated-same k)
      ∷ at 5 (lowest_equal _ _ n not_above-same k)
      ∷ at 9 (lowest_equal _ _ n uneven-same k)
      ∷ at 6 (lowest_equal _ _ n overlaps-same k)
      ∷ at 7 (lowest_equal _ _ n beyond-same k)
      ∷ []

  pub judged-same : (transport : Bool) → judge_over n transport ps ≡ judge_over n transport qs
  unfolding judge_over
  judged-same transport =
      λ k. first_named (rules-same k) (at (cond (wrong_transport transport (size_same k)) 8 0) 0)
