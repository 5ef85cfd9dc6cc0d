-- What a well-formed message is: exactly when a frame is one, the ranges of its fields, and what it doesn't depend on.
-- Assumes nothing.
use Prim.Native.Nat.{ℕ, ◌+◌, ◌-◌, ◌*◌, ◌/◌, ◌%◌, ◌^◌, ◌≤◌, ◌<◌}
use mathlib.Core.Path.{◌≡◌, refl, sym, ap, ◌∙◌}
use mathlib.Core.Logic.{◌↔◌}
use mathlib.Core.Bool.{Bool, true, false, cond, not, ◌&&◌, ◌||◌, true≢false}
use mathlib.Core.List.{List}
use mathlib.Core.Option.{none, some, none-ne-some, some-injective}
use lib.Dec.{eqb, ltb}
use lib.ListN.{get_or}
use native.Mathlib.Omega.{arith}
use native.Mathlib.Decide.{ℕ_discrete}
use native.Mathlib.Nat.{mod-eq_of_lt}
use borrow.Author.Tests.{eq-eqb, ne_eqb, eqb-true, eqb-false, ltb-false, leb-false, le-ltb, lt-leb, not-false}
use Rattle.answers.proofs.Tests.{None, none_applies, applies_none, passed, stopped, bounded}
use Rattle.frame.specs.declared.Fields.{Fields}
use Rattle.frame.specs.Frame.{greatest_identifier, fields_of, pgn_of}
use Rattle.message.specs.declared.Wire.{Wire}
use Rattle.message.specs.declared.Message.{Message}
use Rattle.message.specs.Message.{wire_of, frame_tests, data_tests, refusal_of, message_of, heard}
use Rattle.answers.specs.Tests.{first_number_of}

neither : (a b : Bool) → (a || b) ≡ false → (a ≡ false) × (b ≡ false)
neither true b e = absurd (true≢false e)
neither false b e = (refl, e)

nor : {a b : Bool} → a ≡ false → b ≡ false → (a || b) ≡ false
nor {a} {b} p q = rw (p, q)

-- ---- 01's answers 1 to 8, said as what a well-formed frame is

pub record WellFormed (id len : ℕ) (f : Fields) (w : Wire) : Type 0 where
  pub identifier : id < 2 ^ 29
  pub pgn : pgn_of f ≡ 45056
  pub long : len ≡ 8
  pub source : f.source < 254
  pub configured : (k : ℕ) × (1 ≤ k) × (k ≤ 15) × (w.pgn ≡ 45056 + 256 * k)
  pub flags : (w.proprietary ≤ 1) × (w.transport ≤ 1) × (w.first ≤ 1)
  pub count : (1 ≤ w.n) × (w.n ≤ 64)
  pub position : (1 ≤ w.position) × (w.position ≤ w.n)
  pub first : w.first ≡ 1 → w.position ≡ 1
  pub start : (1 ≤ w.start) × (w.start ≤ 250)

not_both : (a b : Bool) → (a && not b) ≡ false → a ≡ true → b ≡ true
not_both true true e h = refl
not_both true false e h = absurd (true≢false e)
not_both false b e h = absurd (true≢false (sym h))

both_not : (a b : Bool) → (a ≡ true → b ≡ true) → (a && not b) ≡ false
both_not true b h = rw (h refl)
both_not false b h = refl

module _ (id len : ℕ) (f : Fields) (w : Wire) where
  none_then : None (frame_tests id len f) → None (data_tests w) → WellFormed id len f w
  none_then (a, (b, (c, (s, _)))) (g, (u, (m, (p, _)))) =
      let (g₁, g₂) = neither (ltb w.pgn 45312 || ltb 48896 w.pgn) _ g in
      let (g₃, g₄) = neither (ltb w.pgn 45312) _ g₁ in
      let (u₁, u₂) = neither (ltb 1 w.proprietary || ltb 1 w.transport) _ u in
      let (u₃, u₄) = neither (ltb 1 w.proprietary) _ u₁ in
      let (m₁, m₂) = neither (eqb w.n 0 || ltb 64 w.n || eqb w.position 0 || ltb w.n w.position) _ m in
      let (m₃, m₄) = neither (eqb w.n 0 || ltb 64 w.n || eqb w.position 0) _ m₁ in
      let (m₅, m₆) = neither (eqb w.n 0 || ltb 64 w.n) _ m₃ in
      let (m₇, m₈) = neither (eqb w.n 0) _ m₅ in
      let (p₁, p₂) = neither (eqb w.start 0 || ltb 14280 w.start) _ p in
      let (p₃, p₄) = neither (eqb w.start 0) _ p₁ in
      let low = ltb-false w.pgn 45312 g₃ in
      let high = ltb-false 48896 w.pgn g₄ in
      let even = eqb-true (w.pgn % 256) 0 (not-false _ g₂) in
      let some-n : w.n ≡ 0 → ⊥ = eqb-false w.n 0 m₇ in
      let some_position : w.position ≡ 0 → ⊥ = eqb-false w.position 0 m₆ in
      let some-start : w.start ≡ 0 → ⊥ = eqb-false w.start 0 p₃ in
      record {
        identifier = omega (arith, ltb-false greatest_identifier id a);
        pgn = eqb-true (pgn_of f) 45056 (not-false _ b);
        long = eqb-true len 8 (not-false _ c);
        source = leb-false 254 f.source s;
        configured = (w.pgn / 256 - 176, omega arith, omega arith, omega arith);
        flags = (ltb-false 1 w.proprietary u₃, ltb-false 1 w.transport u₄, ltb-false 1 w.first u₂);
        count = (omega arith, ltb-false 64 w.n m₈);
        position = (omega arith, ltb-false w.n w.position m₄);
        first = λ e. eqb-true w.position 1 (not_both _ (eqb w.position 1) m₂ (eq-eqb w.first 1 e));
        start = (omega arith, ltb-false 250 w.start p₂);
      }

  then_none : WellFormed id len f w → None (frame_tests id len f) × None (data_tests w)
  then_none h =
      let (k, k₁, k₂, e) = h.configured in (
        (le-ltb greatest_identifier id (omega (arith, h.identifier)), (ap not (eq-eqb (pgn_of f) 45056 h.pgn), (ap not (eq-eqb len 8 h.long), (lt-leb 254 f.source h.source, tt)))),
        (
          nor (nor (le-ltb w.pgn 45312 (omega arith)) (le-ltb 48896 w.pgn (omega arith))) (ap not (eq-eqb (w.pgn % 256) 0 (omega arith))),
          (
            nor (nor (le-ltb 1 w.proprietary h.flags.0) (le-ltb 1 w.transport h.flags.1)) (le-ltb 1 w.first h.flags.2),
            (
              nor (nor (nor (nor (ne_eqb w.n 0 (λ z. omega (arith, h.count.0))) (le-ltb 64 w.n h.count.1)) (ne_eqb w.position 0 (λ z. omega (arith, h.position.0))))
                  (le-ltb w.n w.position h.position.1))
                  (both_not (eqb w.first 1) (eqb w.position 1) (λ t. eq-eqb w.position 1 (h.first (eqb-true w.first 1 t)))),
              (nor (nor (ne_eqb w.start 0 (λ z. omega (arith, h.start.0))) (le-ltb 14280 w.start (omega (arith, h.start.1)))) (le-ltb 250 w.start h.start.1), tt),
            ),
          ),
        ),
      )

  -- no test of 1 to 8 applies exactly where the frame is well-formed
  pub well_formed : (refusal_of id len f w ≡ 0) ↔ WellFormed id len f w
  well_formed = (λ e. none_then (early e) (none_applies (data_tests w) tt (sym (passed (frame_tests id len f) tt (clear e) _) ∙ e)), λ h. back (then_none h))
    where
      clear : refusal_of id len f w ≡ 0 → first_number_of (frame_tests id len f) 0 ≡ 0
      clear e = elim (ℕ_discrete (first_number_of (frame_tests id len f) 0) 0) [ yes z ↦ z | no n ↦ absurd (n (sym (stopped (frame_tests id len f) n _) ∙ e)) ]

      early : refusal_of id len f w ≡ 0 → None (frame_tests id len f)
      early e = none_applies (frame_tests id len f) tt (clear e)

      back : None (frame_tests id len f) × None (data_tests w) → refusal_of id len f w ≡ 0
      back n = passed (frame_tests id len f) tt (applies_none (frame_tests id len f) n.0) _ ∙ applies_none (data_tests w) n.1

-- ---- a message that was taken

-- the ranges of its fields
pub record Ranges (m : Message) : Type 0 where
  pub source : m.key.source < 254
  pub k : (1 ≤ m.key.k) × (m.key.k ≤ 15)
  pub n : (1 ≤ m.head.n) × (m.head.n ≤ 64)
  pub position : (1 ≤ m.position) × (m.position ≤ m.head.n)
  pub spn : m.place.spn < 2 ^ 19
  pub start : m.place.start ≤ 14279

-- the SPN of the wire has 19 bits
pub spn-bits : (d : List ℕ) → ((i : ℕ) → get_or d i 0 < 256) → (wire_of d).spn < 2 ^ 19
spn-bits d h = omega (arith, h 3, h 4, h 5)

module _ (id len : ℕ) (f : Fields) (w : Wire) (bits19 : w.spn < 2 ^ 19) where
  pub ranges : WellFormed id len f w → Ranges (message_of f w)
  ranges h =
      let (k, k₁, k₂, e) = h.configured in
      let d : w.pgn / 256 ≡ 176 + k = omega arith in
      let x : w.pgn / 256 % 256 ≡ 176 + k = ap (λ (n : ℕ). n % 256) d ∙ mod-eq_of_lt (omega arith) in
      record {
        source = h.source;
        k = (omega arith, omega arith);
        n = h.count;
        position = h.position;
        spn = bits19;
        start = omega (arith, h.start.1);
      }

  -- the configured PGN is 45056 + 256 k
  pub key-number : WellFormed id len f w → w.pgn ≡ 45056 + 256 * (message_of f w).key.k
  key-number h =
      let (k, k₁, k₂, e) = h.configured in
      let d : w.pgn / 256 ≡ 176 + k = omega arith in
      let x : w.pgn / 256 % 256 ≡ 176 + k = ap (λ (n : ℕ). n % 256) d ∙ mod-eq_of_lt (omega arith) in
      omega arith

-- "two messages are the same where source, destination and all stored fields agree": neither the priority nor the first-only flag is stored
pub same-message : (f : Fields) (w : Wire) (priority first : ℕ)
    → message_of (record { priority = priority; reserved = f.reserved; page = f.page; pf = f.pf; ps = f.ps; source = f.source })
    (record { pgn = w.pgn; spn = w.spn; position = w.position; n = w.n; proprietary = w.proprietary; transport = w.transport; first = first; start = w.start })
    ≡ message_of f w
same-message f w priority first = refl

-- and the priority is all that the top three bits of an identifier say
pub same_but_priority : (i j : ℕ) → i % 2 ^ 26 ≡ j % 2 ^ 26 → fields_of i ≡ record { priority = (fields_of i).priority; reserved = (fields_of j).reserved; page = (fields_of j).page; pf = (fields_of j).pf; ps = (fields_of j).ps; source = (fields_of j).source }
same_but_priority i j e =
    let a : (fields_of i).reserved ≡ (fields_of j).reserved = omega arith in
    let b : (fields_of i).page ≡ (fields_of j).page = omega arith in
    let c : (fields_of i).pf ≡ (fields_of j).pf = omega arith in
    let d : (fields_of i).ps ≡ (fields_of j).ps = omega arith in
    let s : (fields_of i).source ≡ (fields_of j).source = omega arith in
    λ k. record { priority = (fields_of i).priority; reserved = a k; page = b k; pf = c k; ps = d k; source = s k }

-- ---- the answer to a frame

module _ (id len : ℕ) (d : List ℕ) where
  -- answer 0 exactly where the frame is well-formed
  pub heard_exactly : ((heard id len d).number ≡ 0) ↔ WellFormed id len (fields_of id) (wire_of d)
  unfolding heard
  heard_exactly = well_formed id len (fields_of id) (wire_of d)

  -- a message is handed on exactly then, and it is what the fields say
  pub heard-message : (m : Message) → (heard id len d).message ≡ some m → ((heard id len d).number ≡ 0) × (m ≡ message_of (fields_of id) (wire_of d))
  unfolding heard
  heard-message m e = go (eqb (refusal_of id len (fields_of id) (wire_of d)) 0) refl e
    where
      go : (b : Bool) → eqb (refusal_of id len (fields_of id) (wire_of d)) 0 ≡ b → cond b (some (message_of (fields_of id) (wire_of d))) none ≡ some m
          → (refusal_of id len (fields_of id) (wire_of d) ≡ 0) × (m ≡ message_of (fields_of id) (wire_of d))
      go true q e = (eqb-true _ 0 q, sym (some-injective _ _ e))
      go false q e = absurd (none-ne-some m e)

  pub heard_ranges : ((i : ℕ) → get_or d i 0 < 256) → (m : Message) → (heard id len d).message ≡ some m → Ranges m
  heard_ranges h m e =
      let (z, q) = heard-message m e in
      rw q (ranges id len (fields_of id) (wire_of d) (spn-bits d h) (heard_exactly.0 z))

  -- a refusal of a frame is 1 to 8
  pub at-most_eight : (heard id len d).number ≤ 8
  unfolding heard
  at-most_eight = bounded 8 (frame_tests id len (fields_of id)) tt _ (bounded 8 (data_tests (wire_of d)) tt 0 (omega arith))
