-- One record: what the calls on its frame make of the words and the counts. Assumes nothing.
use Rattle.std.proofs.Common.{◌≡◌, ℕ, List, ap, ◌∙◌}
use Rattle.answers.specs.Answers.{Said, outcome}
use Rattle.frame.specs.declared.Fields.{Fields}
use Rattle.frame.specs.Frame.{fields_of}
use Rattle.message.specs.Message.{frame_tests, wire_of, Heard, heard}
use Rattle.answers.specs.Tests.{first_number_of}
use Rattle.message.proofs.Tests.{refused-at-once}
use Rattle.record.specs.declared.Record.{Record}
use Rattle.record.specs.Record.{record_in}
use Rattle.table.specs.Learn.{taught, learnt}
use Rattle.feeding.specs.declared.Counts.{Counts}
use Rattle.feeding.specs.Counts.{with_answer}
use Rattle.feeding.specs.Feed.{state, with_outcome, step}

module _ (t : List ℕ) (c : Counts) (r : List ℕ) (f : Record) (e : f ≡ record_in r) where
  -- what the table has learned from it, and its answer counted
  pub taken_in : (a : Said) (after : List ℕ) → outcome a after ≡ learnt t f.id f.len f.bytes → state after (with_answer c a.number) ≡ step (state t c) r
  unfolding step
  taken_in a after h = ap (with_outcome c) h ∙ ap (λ (g : Record). with_outcome c (learnt t g.id g.len g.bytes)) e

  -- a refusal by identifier and length leaves the words
  pub turned_away : (g : Fields) (n : ℕ) → g ≡ fields_of f.id → n ≡ first_number_of (frame_tests f.id f.len g) 0 → (n ≡ 0 → ⊥)
      → state t (with_answer c n) ≡ step (state t c) r
  unfolding step learnt heard
  turned_away g n p q h =
      ap (λ (x : Heard). with_outcome c (taught t x.number x.message))
      (refused-at-once f.id f.len (fields_of f.id) (wire_of f.bytes) n (q ∙ ap (λ (g : Fields). first_number_of (frame_tests f.id f.len g) 0) p) h)
      ∙ ap (λ (g : Record). with_outcome c (learnt t g.id g.len g.bytes)) e
