-- Pieces laid one after another, and a page that holds them all. Assumes nothing.
use Prim.Native.Nat.{ℕ, ◌+◌, ◌≤◌}
use native.Mathlib.Nat.{add-zero, add_assoc}
use mathlib.Core.Path.{◌≡◌, refl, sym, ap, ◌∙◌}
use mathlib.Core.List.{List, [], ◌∷◌, ◌++◌, flatten, append_assoc, append-nil}
use native.Mathlib.Omega.{arith}
use borrow.Author.Tests.{le-leb}
use lib.ListN.{length, take, drop, length-append, length-take, take-append-drop}
use lib.Seq.{take_at, drop-append-add, drop-drop}
use Rattle.splice.specs.Splice.{splice}
use Rattle.splice.proofs.Laws.{length-splice}
use Rattle.text.specs.Text.{Page, page, put, put_all}
use Rattle.text.proofs.Pages.{Holds, nothing_yet, holds_more}

-- ---- one after another

pub put-more : (xs ys : List (List ℕ)) (p : Page) → put_all p (xs ++ ys) ≡ put_all (put_all p xs) ys
unfolding put_all
put-more [] ys p = refl
put-more (x ∷ xs) ys p = put-more xs ys (put p.bytes p.at x)

-- some pieces, and then some more
pub follow : (p q r : Page) (xs ys : List (List ℕ)) → q ≡ put_all p xs → r ≡ put_all q ys → r ≡ put_all p (xs ++ ys)
follow p q r xs ys e f = f ∙ ap (λ (x : Page). put_all x ys) e ∙ sym (put-more xs ys p)

-- four times some pieces
pub four_follow : (p q r s t : Page) (ws xs ys zs : List (List ℕ)) → q ≡ put_all p ws → r ≡ put_all q xs → s ≡ put_all r ys → t ≡ put_all s zs → t ≡ put_all p (ws ++ (xs ++ (ys ++ zs)))
four_follow p q r s t ws xs ys zs e f g h = follow p q t ws (xs ++ (ys ++ zs)) e (follow q r t xs (ys ++ zs) f (follow r s t ys zs g h))

-- one piece
pub one_piece : (l : List ℕ) (at : ℕ) (x : List ℕ) (r : Page) → r ≡ put l at x → r ≡ put_all (page at l) (x ∷ [])
unfolding put_all
one_piece l at x r e = e

-- ---- joined

pub flat_more : (xs ys : List (List ℕ)) → flatten (xs ++ ys) ≡ flatten xs ++ flatten ys
unfolding flatten
flat_more [] ys = refl
flat_more (x ∷ xs) ys = ap (λ (l : List ℕ). x ++ l) (flat_more xs ys) ∙ sym (append_assoc x (flatten xs) (flatten ys))

pub flat_length : (xs ys : List (List ℕ)) → length (flatten (xs ++ ys)) ≡ length (flatten xs) + length (flatten ys)
flat_length xs ys = ap length (flat_more xs ys) ∙ length-append (flatten xs) (flatten ys)

-- ---- in a page that has room for them

pub holds_all : (size : ℕ) (xs : List (List ℕ)) (p : Page) (text : List ℕ) → Holds size p text → length text + length (flatten xs) ≤ size → Holds size (put_all p xs) (text ++ flatten xs)
unfolding put_all flatten
holds_all size [] p text h room = rw (append-nil text) h
holds_all size (x ∷ xs) p text h room =
    rw (← (append_assoc text x (flatten xs)))
    (holds_all size xs (put p.bytes p.at x) (text ++ x) (holds_more size p text x h (omega (arith, length-append x (flatten xs))))
    (omega (arith, length-append x (flatten xs), length-append text x)))

-- from the start of a page
pub holds_pieces : (size : ℕ) (xs : List (List ℕ)) (l : List ℕ) (p : Page) → length l ≡ size → length (flatten xs) ≤ size → p ≡ put_all (page 0 l) xs → Holds size p (flatten xs)
holds_pieces size xs l p long room e = rw e (holds_all size xs (page 0 l) [] (rw long at (nothing_yet l)) (omega arith))

-- ---- in a buffer that has room for them, from any byte on

-- no byte
pub splice_none : (l : List ℕ) (at : ℕ) → splice l at [] ≡ l
splice_none l at = rw add-zero (take-append-drop at l)

-- what is laid right behind what was laid: one laying of both
splice-next : (l : List ℕ) (at : ℕ) (x y : List ℕ) → at + length x + length y ≤ length l → splice (splice l at x) (at + length x) y ≡ splice l at (x ++ y)
splice-next l at x y h =
    let p = take at l ++ x in
    let n : length p ≡ at + length x = simp (length-append, length-take) (omega arith) in
    let s : splice l at x ≡ p ++ drop (at + length x) l = sym (append_assoc (take at l) x _) in
    rw (s, take_at p (drop (at + length x) l) (at + length x) n)
    (let d : drop (at + length x + length y) (p ++ drop (at + length x) l) ≡ drop (at + (length x + length y)) l =
    rw (← n, drop-append-add p (drop (length p) l) (length y), drop-drop (length y) (length p) l, n, add_assoc) refl in
    rw (d, append_assoc (take at l) x _, length-append x y, append_assoc x y _))

-- pieces laid one after another are one laying of what they are joined to
pub pieces_laid : (xs : List (List ℕ)) (at : ℕ) (l : List ℕ) → at + length (flatten xs) ≤ length l → put_all (page at l) xs ≡ page (at + length (flatten xs)) (splice l at (flatten xs))
unfolding put_all put flatten
pieces_laid [] at l room = let e : at + 0 ≡ at = add-zero at in rw e (ap (page at) (sym (take-append-drop at l)))
pieces_laid (x ∷ xs) at l room =
    let r : at + length x + length (flatten xs) ≤ length l = omega (arith, length-append x (flatten xs)) in
    rw (le-leb (at + length x) (length l) (omega arith))
    (pieces_laid xs (at + length x) (splice l at x) (omega (arith, length-splice l at x (omega arith)))
    ∙ (λ i. page (both i) (splice-next l at x (flatten xs) r i)))
  where
    both : at + length x + length (flatten xs) ≡ at + length (x ++ flatten xs)
    both = omega (arith, length-append x (flatten xs))
