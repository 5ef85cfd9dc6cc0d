-- A key and its number: each gives the other back, and rising numbers are rising keys. Assumes nothing.
use Prim.Native.Nat.{ℕ, ◌/◌, ◌%◌, ◌<◌}
use native.Mathlib.Omega.{arith}
use native.Mathlib.Decide.{dec_lt}
use mathlib.Core.Path.{◌≡◌, sym, ap, ◌∙◌}
use mathlib.Core.Logic.{inl, inr}
use mathlib.Core.Bool.{Bool, true, ◌&&◌, and-eq-true_iff}
use borrow.Author.Tests.{ltb-true, lt-ltb}
use lib.Dec.{ltb}
use Rattle.message.specs.declared.Key.{Key}
use Rattle.keyrow.specs.Row.{key_number, key_numbers, key_named, InBytes}
use Rattle.lookup.specs.Next.{Below}

pub number_back : (x : ℕ) → key_number (key_named x) ≡ x
number_back x = omega arith

pub key_back : (k : Key) → InBytes k → key_named (key_number k) ≡ k
key_back k b =
    let s : key_number k / 65536 ≡ k.source = omega (arith, b.destination, b.number) in
    let d : key_number k / 256 % 256 ≡ k.destination = omega (arith, b.destination, b.number) in
    let n : key_number k % 256 ≡ k.k = omega (arith, b.destination, b.number) in
    λ i. record { source = s i; destination = d i; k = n i }

pub below_all : (k : Key) → InBytes k → key_number k < key_numbers
below_all k b = omega (arith, b.source, b.destination, b.number)

pub named-bytes : (x : ℕ) → x < key_numbers → InBytes (key_named x)
named-bytes x h = record { source = omega arith; destination = omega arith; number = omega arith }

pub same_number : (a b : Key) → InBytes a → InBytes b → key_number a ≡ key_number b → a ≡ b
same_number a b p q e = sym (key_back a p) ∙ ap key_named e ∙ key_back b q

-- rising numbers are rising keys
pub rising : (a b : Key) → InBytes a → InBytes b → key_number a < key_number b → Below a b
rising a b p q h = go (dec_lt a.source b.source) (dec_lt a.destination b.destination)
  where
    go : Dec (a.source < b.source) → Dec (a.destination < b.destination) → Below a b
    go (yes s) d = inl s
    go (no s) (yes d) = inr (omega (arith, p.destination, p.number, q.destination, q.number), inl d)
    go (no s) (no d) =
        inr (
          omega (arith, p.destination, p.number, q.destination, q.number),
          inr (omega (arith, p.destination, p.number, q.destination, q.number), omega (arith, p.destination, p.number, q.destination, q.number)),
        )

-- a test that a key's numbers are bytes
abbrev pub in_bytes : Key → Bool
in_bytes k = ltb k.source 256 && (ltb k.destination 256 && ltb k.k 256)

pub bytes_yes : (k : Key) → in_bytes k ≡ true → InBytes k
bytes_yes k e =
    let (s, r) = (and-eq-true_iff (ltb k.source 256) _).0 e in
    let (d, n) = (and-eq-true_iff (ltb k.destination 256) _).0 r in
    record { source = ltb-true _ 256 s; destination = ltb-true _ 256 d; number = ltb-true _ 256 n }

pub yes_bytes : (k : Key) → InBytes k → in_bytes k ≡ true
yes_bytes k b = rw (lt-ltb k.source 256 b.source, lt-ltb k.destination 256 b.destination, lt-ltb k.k 256 b.number)
