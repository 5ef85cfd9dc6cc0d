-- The words and the bytes of a row, as the functions read and write them. Assumes nothing.
use Prim.Native.Nat.{ℕ, zero, suc, ◌+◌, ◌*◌, ◌-◌, ◌≤◌, ◌<◌}
use native.Mathlib.Nat.{zero-add}
use native.Mathlib.Omega.{arith}
use mathlib.Core.Path.{◌≡◌, refl, sym, ap, ap₂, ◌∙◌}
use mathlib.Core.List.{List, [], ◌∷◌, ◌++◌, append_assoc}
use lib.Dec.{lit<}
use lib.ListN.{length, take, drop, get_or, set, replicate, length-append, length-take, length-drop, drop_of_length-le}
use lib.Seq.{take_all, take-take, take-append-le, drop-cons}
use Rattle.words.specs.Rows.{row_at, put_at}
use Rattle.words.proofs.Rows.{span, part_is-row, back_is-put, length-row_at, row_at_get_d, row_at-head}
use Rattle.splice.specs.Splice.{splice, covered, laid}
use Rattle.splice.proofs.Laws.{laid-is}
use Rattle.session.specs.Cut.{seven_of}
use Rattle.session.proofs.Seven.{seven_long, seven_same}
use Rattle.transport.specs.Calls.{open_row}
use Rattle.transport.specs.Rows.{fresh_heads, holder_word}

-- ---- head words

module _ (heads : List ℕ) (long : length heads ≡ 32) (i : ℕ) (h : i < 8) where
  pub head-word : (k : ℕ) → k < 4 → get_or heads (i * 4 + k) 0 ≡ get_or (row_at 4 heads i) k 0
  head-word k l = sym (row_at_get_d 4 heads i (omega arith) k l)

  pub head_holder : holder_word (row_at 4 heads i) ≡ get_or heads (i * 4) 0
  head_holder = row_at-head 4 heads i (omega arith) (lit< tt)

pub all_nobodys : (heads : List ℕ) → length heads ≡ 32 → replicate (length heads) 0 ≡ fresh_heads
unfolding fresh_heads
all_nobodys heads long = ap (λ (n : ℕ). replicate n 0) long

-- four stores, one after another
pub four_stored : (r : List ℕ) → length r ≡ 4 → (holder size pgn : ℕ) → set (set (set (set r 0 holder) 1 1) 2 size) 3 pgn ≡ open_row holder size pgn
four_stored [] e a b c = absurd (omega (arith, e))
four_stored (x ∷ []) e a b c = absurd (omega (arith, e))
four_stored (x ∷ y ∷ []) e a b c = absurd (omega (arith, e))
four_stored (x ∷ y ∷ z ∷ []) e a b c = absurd (omega (arith, e))
four_stored (x ∷ y ∷ z ∷ w ∷ []) e a b c = refl
four_stored (x ∷ y ∷ z ∷ w ∷ v ∷ r) e a b c = absurd (omega (arith, e))

-- ---- bytes

-- n bytes of a list, from byte j on
abbrev pub gets : List ℕ → ℕ → ℕ → List ℕ
gets l j zero = []
gets l j (suc n) = get_or l j 0 ∷ gets l (suc j) n

gets_drop : (l : List ℕ) (j n : ℕ) → j + n ≡ length l → gets l j n ≡ drop j l
gets_drop l j zero e = sym (drop_of_length-le l {i = j} (omega arith))
gets_drop l j (suc n) e = ap (λ (x : List ℕ). get_or l j 0 ∷ x) (gets_drop l (suc j) n (omega arith)) ∙ sym (drop-cons l j 0 (omega arith))

-- the seven bytes of a frame, one after another
pub seven_listed : (d : List ℕ) → length d ≡ 8 → gets d 1 7 ≡ seven_of d
seven_listed d e = gets_drop d 1 7 (sym e) ∙ sym (seven_same 0 (drop 1 d) (simp length-drop (omega arith)))

module _ (t : List ℕ) (wide : length t ≡ 14280) (i : ℕ) (h : i < 8) where
  pub bytes-long : length (row_at 1785 t i) ≡ 1785
  bytes-long = length-row_at 1785 t i (omega arith)

  -- row i is lent as a part, seven bytes are laid into it, and it comes back
  pub seven_laid : (at : ℕ) → at + 7 ≤ 1785 → (d x : List ℕ) → x ≡ seven_of d → (y : List ℕ) → y ≡ laid (take (i * 1785 + 1785 - i * 1785) (drop (i * 1785) t)) at x
      → take (i * 1785) t ++ (y ++ drop (i * 1785 + 1785 - i * 1785) (drop (i * 1785) t)) ≡ put_at 1785 t i (splice (row_at 1785 t i) at (seven_of d))
  seven_laid at room d x e y q =
      back_is-put 1785 t i y
      ∙ ap (put_at 1785 t i)
      (q ∙ ap₂ (λ (l : List ℕ) (z : List ℕ). laid l at z) (part_is-row 1785 t i) e
      ∙ sym (laid-is (row_at 1785 t i) at (seven_of d) (omega (arith, bytes-long, seven_long 0 (drop 1 d)))).1)

  -- the first bytes of row i, as a part
  front_part : (size : ℕ) → size ≤ 1785 → take (i * 1785 + size - i * 1785) (drop (i * 1785) t) ≡ take size (row_at 1785 t i)
  unfolding row_at
  front_part size l = rw (span (i * 1785) size) (sym (take-take size 1785 (drop (i * 1785) t) l))

  -- they are copied over the start of a buffer that has room for them
  pub front_handed : (size : ℕ) → size ≤ 1785 → (out : List ℕ) → length out ≡ 1785 → (o : List ℕ) → o ≡ covered out (take (i * 1785 + size - i * 1785) (drop (i * 1785) t))
      → o ≡ splice out 0 (take size (row_at 1785 t i))
  front_handed size l out e o q = q ∙ ap (covered out) (front_part size l) ∙ over-start out (take size (row_at 1785 t i)) (simp length-take (omega arith))
    where
      over-start : (l x : List ℕ) → length x ≤ length l → covered l x ≡ splice l 0 x
      over-start l x fits =
          ap (λ (y : List ℕ). y ++ drop (length x) l) (take_all (length l) x fits) ∙ ap (λ (k : ℕ). x ++ drop k l) (sym (zero-add (length x)))

-- of bytes that were laid behind others, those up to the last that was laid
pub laid_front : (b x : List ℕ) (k size : ℕ) → k + length x ≤ length b → size ≤ k + length x → take size (splice b k x) ≡ take size (take k b ++ x)
laid_front b x k size h l =
    ap (take size) (sym (append_assoc (take k b) x (drop (k + length x) b)))
    ∙ take-append-le size (take k b ++ x) (drop (k + length x) b) (simp (length-append, length-take) (omega arith))
