-- Three rows that follow each other, lent as one part: a row of the part is a row of the whole, and a row that is put into the part is put into the whole. Assumes nothing.
use mathlib.Core.Path.{◌≡◌, sym, ap, ◌∙◌}
use mathlib.Core.Bool.{Bool, true}
use mathlib.Core.List.{List, ◌++◌, append_assoc}
use native.Mathlib.Nat.{add-mul, mul_assoc}
use Prim.Native.Nat.{ℕ, ◌+◌, ◌*◌, ◌-◌, ◌/◌, ◌≤◌, ◌<◌}
use native.Mathlib.Omega.{arith}
use borrow.Author.Tests.{lt-ltb}
use lib.Dec.{ltb}
use lib.ListN.{length, take, drop, length-drop, take-append-drop}
use lib.Seq.{take-take, drop-drop, take-add, drop_at, length-take-le}
use Rattle.words.specs.Rows.{row_at, put_at}
use Rattle.words.proofs.Rows.{part_is-row, back_is-put, rows_apart, length-row_at}
use Rattle.pairs.specs.Row.{row_passes, passes_at}
use Rattle.counters.specs.declared.Fate.{Fate}
use Rattle.counters.specs.Count.{with_fate}
use Rattle.counters.specs.Words.{counters_in, words_of, noted_at}

-- ---- any list

-- a part that begins at a, and in it w words behind the first m and before the last y
module _ (t : List ℕ) (a m w y : ℕ) (fits : a + (m + (w + y)) ≤ length t) where
  abbrev part : List ℕ
  part = take (m + (w + y)) (drop a t)

  abbrev rest : List ℕ
  rest = drop m (drop a t)

  long_rest : length rest ≡ length t - a - m
  long_rest = simp length-drop

  behind : drop m part ≡ take (w + y) rest
  behind = ap (drop m) (take-add m (w + y) (drop a t)) ∙ drop_at (take m (drop a t)) (take (w + y) rest) m (length-take-le m (drop a t) (simp length-drop (omega arith)))

  pub words-within : take w (drop m part) ≡ take w (drop (a + m) t)
  words-within = ap (take w) behind ∙ take-take w (w + y) rest (omega arith) ∙ ap (take w) (drop-drop m a t)

  last : drop w (drop m part) ≡ take y (drop w rest)
  last = ap (drop w) (behind ∙ take-add w y rest) ∙ drop_at (take w rest) (take y (drop w rest)) w (length-take-le w rest (omega (arith, long_rest)))

  past : drop (m + (w + y)) (drop a t) ≡ drop y (drop w rest)
  past = sym (drop-drop (w + y) m (drop a t)) ∙ sym (drop-drop y w rest)

  pub put-within : (r : List ℕ) → take a t ++ ((take m part ++ (r ++ drop w (drop m part))) ++ drop (m + (w + y)) (drop a t)) ≡ take (a + m) t ++ (r ++ drop w (drop (a + m) t))
  put-within r =
      rw (last, past, take-take m (m + (w + y)) (drop a t) (omega arith), append_assoc (take m (drop a t)) (r ++ take y (drop w rest)) (drop y (drop w rest)), append_assoc r (take y (drop w rest)) (drop y (drop w rest)), take-append-drop y (drop w rest))
      (sym (append_assoc (take a t) (take m (drop a t)) (r ++ drop w rest))
      ∙ ap (λ (l : List ℕ). l ++ (r ++ drop w rest)) (sym (take-add a m t))
      ∙ ap (λ (l : List ℕ). take (a + m) t ++ (r ++ drop w l)) (drop-drop m a t))

-- ---- three rows of w words

module _ (w : ℕ) (t : List ℕ) (i k : ℕ) (h : k < 3) (fits : i * (3 * w) + 3 * w ≤ length t) where
  -- the words of the part behind row k
  abbrev after : ℕ
  after = 3 * w - (k * w + w)

  all_three : 3 * w ≡ k * w + (w + after)
  all_three = omega (arith, rows_apart w k 3 h)

  begins : (i * 3 + k) * w ≡ i * (3 * w) + k * w
  begins = add-mul (i * 3) k w ∙ ap (λ (n : ℕ). n + k * w) (mul_assoc i 3 w)

  fits' : i * (3 * w) + (k * w + (w + after)) ≤ length t
  fits' = rw (← all_three) fits

  pub row_within : row_at w (row_at (3 * w) t i) k ≡ row_at w t (i * 3 + k)
  unfolding row_at
  row_within = rw begins (rw (← all_three) at (words-within t (i * (3 * w)) (k * w) w after fits'))

  pub put-row : (r : List ℕ) → put_at (3 * w) t i (put_at w (row_at (3 * w) t i) k r) ≡ put_at w t (i * 3 + k) r
  unfolding row_at put_at
  put-row r = rw begins (rw (← all_three) at (put-within t (i * (3 * w)) (k * w) w after fits' r))

-- ---- the three pairs from a port

-- one of them, by its number among them
module _ (i k : ℕ) (l : i < 4) (h : k < 3) where
  -- their filters
  pub passes-within : (w : List ℕ) → length w ≡ 408 → (g : ℕ) {b : Bool} → b ≡ passes_at (take (i * 102 + 102 - i * 102) (drop (i * 102) w)) k g → b ≡ row_passes (row_at 34 w (i * 3 + k)) g
  passes-within w long g {b} e =
      let fits : i * 102 + 102 ≤ length w = rw long (omega arith) in
      let in-part : ltb k (length (row_at 102 w i) / 34) ≡ true = rw (length-row_at 102 w i fits) (lt-ltb k 3 h) in
      rw (← row_within 34 w i k h fits) (rw (part_is-row 102 w i, in-part) at e)

  -- their counters
  pub noted-within : (c : List ℕ) → length c ≡ 72 → (f : Fate) {r : List ℕ} → r ≡ noted_at (take (i * 18 + 18 - i * 18) (drop (i * 18) c)) k f
      → take (i * 18) c ++ (r ++ drop (i * 18 + 18 - i * 18) (drop (i * 18) c)) ≡ noted_at c (i * 3 + k) f
  unfolding noted_at
  noted-within c long f {r} e =
      let fits : i * 18 + 18 ≤ length c = rw long (omega arith) in
      let in-part : ltb k (length (row_at 18 c i) / 6) ≡ true = rw (length-row_at 18 c i fits) (lt-ltb k 3 h) in
      let in_all : ltb (i * 3 + k) (length c / 6) ≡ true = rw long (lt-ltb (i * 3 + k) 12 (omega arith)) in
      rw (back_is-put 18 c i r, in_all, ← row_within 6 c i k h fits)
      (ap (put_at 18 c i) (rw (part_is-row 18 c i, in-part) at e) ∙ put-row 6 c i k h fits (words_of (with_fate (counters_in (row_at 6 (row_at 18 c i) k)) f)))
