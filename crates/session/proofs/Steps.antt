-- What a packet makes of a session and is answered, by its three cases: the next one, the last one, one out of sequence. Assumes nothing.
use Prim.Native.Nat.{ℕ, ◌+◌, ◌-◌, ◌*◌, ◌≤◌, ◌<◌}
use native.Mathlib.Omega.{arith}
use native.Mathlib.Decide.{dec_lt}
use mathlib.Core.Path.{◌≡◌, refl, sym, ap, ◌∙◌}
use mathlib.Core.Bool.{true, false, and-false, and-eq-true_iff}
use mathlib.Core.Option.{none, some}
use mathlib.Core.List.{List, ◌++◌}
use borrow.Author.Tests.{ltb-true, leb-true, eqb-true, lt-ltb, le-leb, lt-leb, eq-eqb, ne_eqb}
use lib.Dec.{ltb, leb}
use lib.ListN.{length, take}
use lib.Seq.{take-append-le, take-append-add}
use Rattle.answers.specs.Answers.{done}
use Rattle.session.specs.Session.{Session, grown, is_next, is_last, told, briefly, finished, tell, after}

-- ---- in sequence

-- the number that comes next, if it is one of 1 to 255
pub is-next : (n : ℕ) → 0 < n → n ≤ 255 → is_next n n ≡ true
unfolding is_next
is-next n p h = rw (le-leb n 255 h, lt-ltb 0 n p, eq-eqb n n refl)

-- and no other: neither a later one nor one that came already, and never number 0
pub next-is : (next n : ℕ) → is_next next n ≡ true → (next ≡ n) × ((0 < n) × (n ≤ 255))
unfolding is_next
next-is next n e =
    let (a, r) = (and-eq-true_iff (leb n 255) _).0 e in
    let (b, c) = (and-eq-true_iff (ltb 0 n) _).0 r in
    (eqb-true next n c, (ltb-true 0 n b, leb-true n 255 a))

pub not-next : (next n : ℕ) → (n ≡ next → ⊥) → is_next next n ≡ false
unfolding is_next
not-next next n ne = rw (ne_eqb next n (λ e. ne (sym e)), and-false (ltb 0 n)) (and-false (leb n 255))

pub never_0 : (next : ℕ) → is_next next 0 ≡ false
unfolding is_next
never_0 next = refl

-- ---- the last

pub is-last : (size n : ℕ) → size ≤ 7 * n → is_last size n ≡ true
unfolding is_last
is-last size n h = le-leb size (7 * n) h

pub not_last : (size n : ℕ) → 7 * n < size → is_last size n ≡ false
unfolding is_last
not_last size n h = lt-leb size (7 * n) h

pub last-is : (size n : ℕ) → is_last size n ≡ true → size ≤ 7 * n
unfolding is_last
last-is size n e = leb-true size (7 * n) e

-- ---- the three cases

module _ (s : Session) (n : ℕ) (x : List ℕ) where
  -- in sequence, and not the last
  module _ (e : is_next s.next n ≡ true) (f : is_last s.size n ≡ false) where
    pub goes_on : tell (some s) n x ≡ briefly 0
    goes_on = rw (e, f)

    pub grows : after (some s) n x ≡ some (grown s x)
    grows = rw (e, f)

  -- in sequence, and the last
  module _ (e : is_next s.next n ≡ true) (f : is_last s.size n ≡ true) where
    pub finishes : tell (some s) n x ≡ finished s x
    finishes = rw (e, f)

    pub ends : after (some s) n x ≡ none
    ends = rw (e, f)

  -- out of sequence
  module _ (e : is_next s.next n ≡ false) where
    pub is_29 : tell (some s) n x ≡ briefly 29
    is_29 = rw e

    pub drops : after (some s) n x ≡ none
    drops = rw e

-- ---- what fills the last packet

-- bytes of it behind the size are nobody's, whatever they are
pub any_filling : (s : Session) (x y : List ℕ) → take (s.size - length s.bytes) x ≡ take (s.size - length s.bytes) y → finished s x ≡ finished s y
any_filling s x y e =
    ap (told (done s.size) s.pgn)
    (elim (dec_lt s.size (length s.bytes)) [
      | yes l ↦ take-append-le s.size s.bytes x (omega arith) ∙ sym (take-append-le s.size s.bytes y (omega arith))
      | no l ↦ let n = s.size - length s.bytes in
          let sum : s.size ≡ length s.bytes + n = omega arith in
          ap (λ (k : ℕ). take k (s.bytes ++ x)) sum ∙ take-append-add s.bytes x n ∙ ap (λ (l : List ℕ). s.bytes ++ l) e
          ∙ sym (take-append-add s.bytes y n) ∙ ap (λ (k : ℕ). take k (s.bytes ++ y)) (sym sum)
    ])
