-- The digits of a number, written from the last to the first. Assumes nothing.
use Prim.Native.Nat.{ℕ, zero, suc, ◌+◌, ◌-◌, ◌/◌, ◌%◌, ◌^◌, ◌≤◌, ◌<◌}
use mathlib.Core.Path.{◌≡◌, sym, ap, ◌∙◌, subst}
use mathlib.Core.List.{List, [], ◌∷◌, ◌++◌, append_assoc, append-nil}
use native.Mathlib.Nat.{pow-suc}
use native.Mathlib.Omega.{arith}
use borrow.Author.Tests.{lt-ltb, le-ltb}
use lib.ListN.{length, set, drop, length-set, drop_of_length-le}
use lib.Seq.{drop-cons, drop-set-lt, get_or-set_same}
use Rattle.text.specs.Text.{decimal_to, decimal_of}

-- what stands behind a byte that was written
behind : (b : List ℕ) (j x : ℕ) → j < length b → drop j (set b j x) ≡ x ∷ drop (suc j) b
behind b j x h =
    drop-cons (set b j x) j 0 (rw length-set h)
    ∙ rw (get_or-set_same b j x 0 h, drop-set-lt (suc j) b j x (omega arith))

-- the number left, the bytes and how many of them are still free, in the middle of writing n: the digits to come and those written are the number's
pub record Writing (n : ℕ) (b : List ℕ) (i rest : ℕ) : Type 0 where
  pub some : 1 ≤ i
  pub room : i ≤ 20
  pub long : length b ≡ 20
  pub most : rest ≤ n
  pub few : rest < 10 ^ i
  pub whole : decimal_to i rest ++ drop i b ≡ decimal_of n

pub started : (n : ℕ) (b : List ℕ) → length b ≡ 20 → n < 18446744073709551616 → Writing n b 20 n
unfolding decimal_of
started n b l h = record {
  some = omega arith;
  room = omega arith;
  long = l;
  most = omega arith;
  few = omega arith;
  whole = rw (drop_of_length-le b {i = 20} (omega arith)) (append-nil (decimal_to 20 n));
}

-- a digit more is written, and there was room for it and for another
pub room-left : (i rest : ℕ) → 10 ≤ rest → rest < 10 ^ i → 2 ≤ i
room-left zero rest h k = omega arith
room-left (suc zero) rest h k = omega arith
room-left (suc (suc i)) rest h k = omega arith

-- the two cases of a number's digits
longer : (j n : ℕ) → 10 ≤ n → decimal_to (suc j) n ≡ decimal_to j (n / 10) ++ (48 + n % 10) ∷ []
unfolding decimal_to
longer j n h = rw (le-ltb n 10 h)

shortest : (j n : ℕ) → n < 10 → decimal_to (suc j) n ≡ (48 + n) ∷ []
unfolding decimal_to
shortest j n h = rw (lt-ltb n 10 h)

module _ (n : ℕ) (b : List ℕ) (j rest : ℕ) (w : Writing n b (suc j) rest) where
  inside : j < length b
  inside = omega (arith, w.room, w.long)

  pub turned : 10 ≤ rest → Writing n (set b j (48 + rest % 10)) j (rest / 10)
  turned h = record {
    some = omega (arith, room-left (suc j) rest h w.few);
    room = omega (arith, w.room);
    long = length-set b j (48 + rest % 10) ∙ w.long;
    most = omega (arith, w.most);
    few = omega (arith, w.few, pow-suc 10 j);
    whole = shift ∙ w.whole;
  }
    where
      more : decimal_to (suc j) rest ≡ decimal_to j (rest / 10) ++ (48 + rest % 10) ∷ []
      more = longer j rest h

      shift : decimal_to j (rest / 10) ++ drop j (set b j (48 + rest % 10)) ≡ decimal_to (suc j) rest ++ drop (suc j) b
      shift = rw (behind b j (48 + rest % 10) inside, more) (sym (append_assoc (decimal_to j (rest / 10)) ((48 + rest % 10) ∷ []) (drop (suc j) b)))

  -- the last digit
  pub ended : rest < 10 → drop j (set b j (48 + rest)) ≡ decimal_of n
  ended h = behind b j (48 + rest) inside ∙ sym (ap (λ (l : List ℕ). l ++ drop (suc j) b) (shortest j rest h)) ∙ w.whole

-- the same at a number that is not 0, as a program counts down
pub before : (n : ℕ) (b : List ℕ) (i rest : ℕ) → Writing n b i rest → Writing n b (suc (i - 1)) rest
before n b i rest w =
    let e : i ≡ suc (i - 1) = omega (arith, w.some) in
    subst (λ (k : ℕ). Writing n b k rest) e w
