-- The words of the counters, as the functions read and write them, and what a fate that is noted does to the counters of each pair. Assumes nothing.
use Rattle.std.proofs.Common.{◌≡◌, ℕ, ◌+◌, ◌*◌, ◌/◌, ◌<◌, ◌≤◌, List, ◌++◌, length, take, drop, sym, refl, ap, ◌∙◌, arith, le-ltb, lt-ltb}
use Rattle.words.specs.Rows.{row_at, put_at}
use Rattle.words.proofs.Rows.{length-put_at, row_at-put_at, row_at-put_at-other}
use Rattle.counters.specs.declared.Counters.{Counters}
use Rattle.counters.specs.declared.Fate.{Fate}
use Rattle.counters.specs.Count.{with_fate}
use Rattle.counters.specs.Words.{no_counters, counters_in, words_of, counters_at, noted_at}

-- counters that are each 0
pub all_0 : {a f q s t r : ℕ} → a ≡ 0 → f ≡ 0 → q ≡ 0 → s ≡ 0 → t ≡ 0 → r ≡ 0
    → record { arrived = a; filtered = f; queued = q; sent = s; turned = t; refused = r } ≡ no_counters
all_0 a f q s t r = rw (a, f, q, s, t, r)

-- ---- row i is lent, behind the rows before it, and comes back

module _ (w : List ℕ) (i : ℕ) where
  module _ {front rest row : List ℕ} (h : i < length w / 6) (e : front ≡ take (i * 6) w) (f : rest ≡ drop (i * 6) w) (g : row ≡ take 6 rest) where
    pub lent-noted : (k : Fate) {r : List ℕ} → r ≡ words_of (with_fate (counters_in row) k) → front ++ (r ++ drop 6 rest) ≡ noted_at w i k
    unfolding noted_at row_at put_at
    lent-noted k {r} o = rw (e, f, lt-ltb i (length w / 6) h) (ap (put_at 6 w i) (rw (g, f) at o))

    pub lent_read : {c : Counters} → c ≡ counters_in row → c ≡ counters_at w i
    unfolding counters_at row_at
    lent_read o = rw (lt-ltb i (length w / 6) h) (rw (g, f) at o)

  pub none_noted : (f : Fate) → length w / 6 ≤ i → w ≡ noted_at w i f
  unfolding noted_at
  none_noted f h = rw (le-ltb i (length w / 6) h)

  pub none_read : length w / 6 ≤ i → no_counters ≡ counters_at w i
  unfolding counters_at
  none_read h = rw (le-ltb i (length w / 6) h)

-- ---- the counters of each pair, of twelve

module _ (w : List ℕ) (long : length w ≡ 72) (i : ℕ) (h : i < 12) where
  -- where they stand
  pub read_at_lem : counters_at w i ≡ counters_in (row_at 6 w i)
  unfolding counters_at
  read_at_lem = rw (long, lt-ltb i 12 h)

  put-at : (f : Fate) → noted_at w i f ≡ put_at 6 w i (words_of (with_fate (counters_in (row_at 6 w i)) f))
  unfolding noted_at
  put-at f = rw (long, lt-ltb i 12 h)

-- another section, so that the laws above can be cited at other words and another pair
module _ (w : List ℕ) (long : length w ≡ 72) (i : ℕ) (h : i < 12) (f : Fate) where
  fits : i * 6 + 6 ≤ length w
  fits = rw long (omega arith)

  pub long-noted : length (noted_at w i f) ≡ 72
  long-noted = ap length (put-at w long i h f) ∙ length-put_at 6 w i fits (words_of (with_fate (counters_in (row_at 6 w i)) f)) refl ∙ long

  -- the pair's own
  pub at-noted : counters_at (noted_at w i f) i ≡ with_fate (counters_at w i) f
  at-noted =
      read_at_lem (noted_at w i f) long-noted i h
      ∙ ap (λ (v : List ℕ). counters_in (row_at 6 v i)) (put-at w long i h f)
      ∙ ap counters_in (row_at-put_at 6 w i fits (words_of (with_fate (counters_in (row_at 6 w i)) f)) refl)
      ∙ ap (λ (c : Counters). with_fate c f) (sym (read_at_lem w long i h))

  -- and any other's
  pub at_others : (j : ℕ) → j < 12 → (j ≡ i → ⊥) → counters_at (noted_at w i f) j ≡ counters_at w j
  at_others j l ne =
      read_at_lem (noted_at w i f) long-noted j l
      ∙ ap (λ (v : List ℕ). counters_in (row_at 6 v j)) (put-at w long i h f)
      ∙ ap counters_in (row_at-put_at-other 6 w i fits (words_of (with_fate (counters_in (row_at 6 w i)) f)) refl j ne (rw long (omega arith)))
      ∙ sym (read_at_lem w long j l)
