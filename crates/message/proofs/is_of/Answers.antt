-- `message::is_of` meets its contract: reserved, data page, PF, and PS where it counts, say whether the PGN is 256 times a PF.
-- Assumes nothing.
use Prim.Native.Nat.{ℕ, ◌+◌, ◌*◌, ◌^◌, ◌<◌}
use native.Mathlib.Omega.{arith}
use mathlib.Core.Path.{◌≡◌, refl, sym}
use mathlib.Core.Bool.{Bool, true, false, cond, ◌&&◌, ◌||◌}
use borrow.Author.Tests.{eqb-true, eqb-false, eq-eqb, ne_eqb, ltb-true, ltb-false, lt-ltb, le-ltb}
use lib.Dec.{eqb, ltb}
use Rattle.message.proofs.is_of.Goals as goal

-- of reserved, page, PF and PS, and the PF that is asked for
module _ (r p f s q : ℕ) (byte-s : s < 256) (byte-q : q < 256) where
  abbrev number : ℕ → ℕ
  number low = r * 2 ^ 17 + p * 2 ^ 16 + f * 2 ^ 8 + low

  parts : (low : ℕ) → low < 256 → number low ≡ q * 2 ^ 8 → (r ≡ 0) × ((p ≡ 0) × ((f ≡ q) × (low ≡ 0)))
  parts low h e =
      let a : r ≡ 0 = omega arith in
      let b : p ≡ 0 = omega arith in
      let c : f ≡ q = omega arith in
      (a, (b, (c, omega arith)))

  low_byte : (d : Bool) → cond d 0 s < 256
  low_byte true = omega arith
  low_byte false = byte-s

  differs : (d : Bool) → ((r ≡ 0) × ((p ≡ 0) × ((f ≡ q) × (cond d 0 s ≡ 0))) → ⊥) → false ≡ eqb (number (cond d 0 s)) (q * 2 ^ 8)
  differs d n = sym (ne_eqb (number (cond d 0 s)) (q * 2 ^ 8) (λ e. n (parts (cond d 0 s) (low_byte d) e)))

  -- from 240 on PS is a part of the PGN
  with-ps : (t : Bool) → eqb s 0 ≡ t → r ≡ 0 → p ≡ 0 → f ≡ q → t ≡ eqb (number s) (q * 2 ^ 8)
  with-ps true t a b c = sym (eq-eqb (number s) (q * 2 ^ 8) (omega (arith, eqb-true s 0 t, a, b, c)))
  with-ps false t a b c = differs false (λ u. eqb-false s 0 t u.1.1.1)

  fields-say : (eqb r 0 && eqb p 0 && eqb f q && (ltb q 240 || eqb s 0)) ≡ eqb (number (cond (ltb f 240) 0 s)) (q * 2 ^ 8)
  fields-say = go (ltb f 240) (eqb r 0) (eqb p 0) (eqb f q) refl refl refl refl
    where
      go : (d a b c : Bool) → ltb f 240 ≡ d → eqb r 0 ≡ a → eqb p 0 ≡ b → eqb f q ≡ c → (a && b && c && (ltb q 240 || eqb s 0)) ≡ eqb (number (cond d 0 s)) (q * 2 ^ 8)
      go true true true true h x y z =
          rw (lt-ltb q 240 (omega (arith, ltb-true f 240 h, eqb-true f q z)))
          (sym (eq-eqb (number 0) (q * 2 ^ 8) (omega (arith, eqb-true r 0 x, eqb-true p 0 y, eqb-true f q z))))
      go false true true true h x y z =
          rw (le-ltb q 240 (omega (arith, ltb-false f 240 h, eqb-true f q z)))
          (with-ps (eqb s 0) refl (eqb-true r 0 x) (eqb-true p 0 y) (eqb-true f q z))
      go d true true false h x y z = differs d (λ u. eqb-false f q z u.1.1.0)
      go d true false c h x y z = differs d (λ u. eqb-false p 0 y u.1.0)
      go d false b c h x y z = differs d (λ u. eqb-false r 0 x u.0)

pub returns : goal.returns
returns c =
    let a = c.args in
    let f = a.f in
    fields-say f.reserved f.page f.pf f.ps a.pf (omega arith) (omega arith)
