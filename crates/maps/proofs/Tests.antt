-- What the tests of specs/ tell of the records that they compare, and of two messages. Assumes nothing.
use Prim.Native.Nat.{ℕ}
use mathlib.Core.Path.{◌≡◌, refl, sym}
use mathlib.Core.Logic.{◌⊎◌, inl, inr}
use mathlib.Core.Bool.{Bool, true, false, ◌&&◌, beq, and-eq-true_iff, or-true, and-false}
use borrow.Author.Tests.{eqb-true, eq-eqb}
use lib.Dec.{eqb}
use Rattle.words.proofs.Tests.{test, never}
use Rattle.message.specs.declared.Key.{Key}
use Rattle.message.specs.declared.Head.{Head}
use Rattle.message.specs.declared.Place.{Place}
use Rattle.message.specs.declared.Message.{Message}
use Rattle.maps.specs.Maps.{same_key, same_head, same_place, contradicts}

pub and_false_cases : (a b : Bool) → a && b ≡ false → (a ≡ false) ⊎ (b ≡ false)
and_false_cases true b e = inr e
and_false_cases false b e = inl e

pub beq_true : (a b : Bool) → beq a b ≡ true → a ≡ b
beq_true true true e = refl
beq_true true false e = sym e
beq_true false true e = e
beq_true false false e = refl

beq_refl : (a : Bool) → beq a a ≡ true
beq_refl true = refl
beq_refl false = refl

-- three tests that all hold
all_three : (a b c : Bool) → (a && (b && c)) ≡ true → (a ≡ true) × (b ≡ true) × (c ≡ true)
all_three a b c e =
    let (p, r) = (and-eq-true_iff a (b && c)).0 e in
    let (q, s) = (and-eq-true_iff b c).0 r in
    (p, q, s)

pub eqb_same : (n : ℕ) → eqb n n ≡ true
eqb_same n = eq-eqb n n refl

-- ---- equal by the test, equal

pub key_eq : (a b : Key) → same_key a b ≡ true → a ≡ b
unfolding same_key
key_eq a b e =
    let (s, d, k) = all_three (eqb a.source b.source) (eqb a.destination b.destination) (eqb a.k b.k) e in
    λ i. record { source = eqb-true a.source b.source s i; destination = eqb-true a.destination b.destination d i; k = eqb-true a.k b.k k i }

pub head_eq : (a b : Head) → same_head a b ≡ true → a ≡ b
unfolding same_head
head_eq a b e =
    let (n, p, t) = all_three (eqb a.n b.n) (beq a.proprietary b.proprietary) (beq a.transport b.transport) e in
    λ i. record { n = eqb-true a.n b.n n i; proprietary = beq_true a.proprietary b.proprietary p i; transport = beq_true a.transport b.transport t i }

pub place_eq : (a b : Place) → same_place a b ≡ true → a ≡ b
unfolding same_place
place_eq a b e =
    let (s, t) = (and-eq-true_iff (eqb a.spn b.spn) _).0 e in
    λ i. record { spn = eqb-true a.spn b.spn s i; start = eqb-true a.start b.start t i }

-- and the other way
pub key-refl : (a : Key) → same_key a a ≡ true
unfolding same_key
key-refl a = rw (eqb_same a.source, eqb_same a.destination, eqb_same a.k)

pub head-refl : (a : Head) → same_head a a ≡ true
unfolding same_head
head-refl a = rw (eqb_same a.n, beq_refl a.proprietary, beq_refl a.transport)

pub place-refl : (a : Place) → same_place a a ≡ true
unfolding same_place
place-refl a = rw (eqb_same a.spn, eqb_same a.start)

-- ---- contradicting messages

pub clash_head : (a b : Message) → same_head a.head b.head ≡ false → contradicts a b ≡ true
unfolding contradicts
clash_head a b e = rw e

pub clash_place : (a b : Message) → a.position ≡ b.position → same_place a.place b.place ≡ false → contradicts a b ≡ true
unfolding contradicts
clash_place a b q e = rw (eq-eqb a.position b.position q, e, or-true)

-- messages that do not contradict each other
abbrev pub Agree : Message → Message → Type 0
Agree a b = (a.head ≡ b.head) × (a.position ≡ b.position → a.place ≡ b.place)

pub agree : (a b : Message) → contradicts a b ≡ false → Agree a b
agree a b e = (
  test (same_head a.head b.head) (head_eq a.head b.head) (λ f. never (clash_head a b f) e),
  λ q. test (same_place a.place b.place) (place_eq a.place b.place) (λ f. never (clash_place a b q f) e),
)

pub no_clash : (a b : Message) → Agree a b → contradicts a b ≡ false
unfolding contradicts
no_clash a b g =
    rw (g.0, head-refl b.head)
    (test (eqb a.position b.position) (λ t. rw (g.1 (eqb-true a.position b.position t), place-refl b.place, and-false)) (λ f. rw f))
