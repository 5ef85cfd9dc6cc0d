-- Laws of bytes laid over others, and of one list behind another. Assumes nothing.
use mathlib.Core.Path.{◌≡◌, sym, ap, ◌∙◌}
use mathlib.Core.List.{List, [], ◌++◌, append_assoc, append-nil}
use mathlib.Core.Bool.{true, false}
use Prim.Native.Nat.{ℕ, ◌+◌, ◌-◌, ◌≤◌, ◌<◌}
use native.Mathlib.Omega.{arith}
use lib.ListN.{length, take, drop, length-append, length-take, length-drop, drop_of_length-le}
use lib.Seq.{take-append_seam, drop-append_seam, take-append-add, take-append-le, take_all, drop-drop}
use Rattle.splice.specs.Splice.{splice, covered, fits, laid}
use borrow.Author.Tests.{le-leb, lt-leb}

-- lists that end together
pub covered_same : (d s : List ℕ) → length d ≡ length s → covered d s ≡ s
covered_same d s e = rw (e, drop_of_length-le d {i = length s} (omega arith), take_all (length s) s (omega arith)) (append-nil s)

-- no room: nothing is laid
pub lay_no : (l : List ℕ) (at : ℕ) (x : List ℕ) → length l < at + length x → (false ≡ fits l at x) × (l ≡ laid l at x)
lay_no l at x h = let e = lt-leb (at + length x) (length l) h in (sym e, rw e)

-- room: x is laid
pub laid-is : (l : List ℕ) (at : ℕ) (x : List ℕ) → at + length x ≤ length l → (true ≡ fits l at x) × (splice l at x ≡ laid l at x)
laid-is l at x h = let e = le-leb (at + length x) (length l) h in (sym e, rw e)

pub length-splice : (l : List ℕ) (at : ℕ) (x : List ℕ) → at + length x ≤ length l → length (splice l at x) ≡ length l
length-splice l at x h = simp (length-append, length-take, length-drop) (omega arith)

-- ---- one list after another over the start of d

-- the second covers what the first left of d, as a part that was lent and came back
pub covered_next : (d x y u v : List ℕ) → length x ≤ length d → length u ≡ length d → u ≡ covered d x → v ≡ covered (take (length u - length x) (drop (length x) u)) y
    → take (length x) u ++ (v ++ drop (length u - length x) (drop (length x) u)) ≡ covered d (x ++ y)
covered_next d x y u v h l p q =
    let n : length (drop (length x) d) ≡ length d - length x = length-drop (length x) d in
    let first : u ≡ x ++ drop (length x) d = p ∙ rw (take_all (length d) x h) in
    let rest : drop (length x) u ≡ drop (length x) d = ap (drop (length x)) first ∙ drop-append_seam x (drop (length x) d) in
    let part : take (length d - length x) (drop (length x) d) ≡ drop (length x) d = take_all (length d - length x) (drop (length x) d) (omega arith) in
    let none : drop (length d - length x) (drop (length x) d) ≡ [] = drop_of_length-le (drop (length x) d) {i = length d - length x} (omega arith) in
    let sum : length d ≡ length x + (length d - length x) = omega arith in
    let whole : take (length d) (x ++ y) ≡ x ++ take (length d - length x) y =
    ap (λ (k : ℕ). take k (x ++ y)) sum ∙ take-append-add x y (length d - length x) in
    rw (q, l, rest, part, none, ap (take (length x)) first, take-append_seam x (drop (length x) d), n, whole, length-append x y, drop-drop (length y) (length x) d, append-nil, append_assoc)

-- the second finds nothing left
pub covered-full : (d x y : List ℕ) → length d ≤ length x → covered d x ≡ covered d (x ++ y)
covered-full d x y h =
    rw (take-append-le (length d) x y h, drop_of_length-le d {i = length x} h, drop_of_length-le d {i = length (x ++ y)} (omega (arith, length-append x y)))
