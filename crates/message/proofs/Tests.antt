-- The two ways on from the identifier and the length: where they refuse, the eight bytes don't count; where they don't, the bytes decide.
-- Assumes nothing.
use Prim.Native.Nat.{ℕ}
use mathlib.Core.Path.{◌≡◌, sym, ap, ◌∙◌}
use mathlib.Core.Option.{none}
use borrow.Author.Tests.{ne_eqb}
use Rattle.answers.proofs.Tests.{passed, stopped}
use Rattle.frame.specs.declared.Fields.{Fields}
use Rattle.message.specs.declared.Wire.{Wire}
use Rattle.message.specs.Message.{frame_tests, data_tests, refusal_of, Heard, heard_from}
use Rattle.answers.specs.Tests.{first_number_of}

module _ (id len : ℕ) (f : Fields) (w : Wire) where
  pub read_on : first_number_of (frame_tests id len f) 0 ≡ 0 → heard_from (first_number_of (data_tests w) 0) f w ≡ heard_from (refusal_of id len f w) f w
  read_on e = ap (λ (n : ℕ). heard_from n f w) (sym (passed (frame_tests id len f) tt e (first_number_of (data_tests w) 0)))

  pub refused-at-once : (n : ℕ) → n ≡ first_number_of (frame_tests id len f) 0 → (n ≡ 0 → ⊥) → ◌≡◌ {A = Heard} (record { number = n; message = none }) (heard_from (refusal_of id len f w) f w)
  refused-at-once n e h =
      kept_out
      ∙ ap (λ (m : ℕ). heard_from m f w) (e ∙ sym (stopped (frame_tests id len f) (λ z. h (e ∙ z)) (first_number_of (data_tests w) 0)))
    where
      kept_out : ◌≡◌ {A = Heard} (record { number = n; message = none }) (heard_from n f w)
      kept_out = rw (ne_eqb n 0 h)
