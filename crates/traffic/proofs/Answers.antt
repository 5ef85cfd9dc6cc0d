-- Each answer exactly where 02 says, and what a refusal changes: "a refusal here changes its pair's counters and nothing else". On any words. Assumes nothing.
use Prim.Native.Nat.{ℕ, ◌-◌, ◌≤◌, ◌<◌}
use native.Mathlib.Omega.{arith}
use mathlib.Core.Path.{◌≡◌, refl, sym, ap, ◌∙◌}
use mathlib.Core.Bool.{true}
use mathlib.Core.List.{List, [], ◌∷◌}
use borrow.Author.Tests.{ltb-false, lt-ltb, le-ltb}
use lib.Dec.{ltb}
use lib.ListN.{length}
use Rattle.words.proofs.Tests.{test}
use Rattle.answers.specs.Answers.{Said, plain, done}
use Rattle.answers.proofs.Tests.{one_of}
use Rattle.frame.specs.Frame.{greatest_identifier, fields_of, pgn_of}
use Rattle.pairs.specs.Pairs.{passes, decided_by}
use Rattle.ports.specs.Filters.{two_ports, pair_of, pair_at, decided}
use Rattle.counters.specs.Words.{counters_at}
use Rattle.queue.specs.Row.{word_of, enters_at}
use Rattle.queue.proofs.Rows.{enter_stays}
use Rattle.bridge.specs.Bridge.{Bridge, answer_to, Replied, offered_to}
use Rattle.traffic.specs.Traffic.{Verdict, Refuses, Blocks, Passes, Frame, fate_of}
use Rattle.traffic.specs.Runs.{verdict_of, met_as, words_after}
use Rattle.traffic.proofs.Words.{row_below, port_to, noted_other}
use Rattle.traffic.proofs.Theorem.{offer_event}

-- ---- what the filter says

-- of two different ports it is 1, or 0 with detail 0 or 1
pub data Filters (d : Said) : Type 0 where
  Bad : d ≡ plain 1 → verdict_of d ≡ Refuses → Filters d
  Block : d ≡ done 0 → verdict_of d ≡ Blocks → Filters d
  Pass : d ≡ done 1 → verdict_of d ≡ Passes → Filters d

pub filter_says : (w : List ℕ) (f t id : ℕ) → two_ports f t ≡ true → Filters (decided w f t id)
unfolding decided decided_by verdict_of
filter_says w f t id y =
    test (ltb greatest_identifier id) (λ l. rw (y, l) (Bad refl refl))
    (λ l. rw (y, l)
    (test (passes (pair_at w f t).mode ((pair_at w f t).listed (pgn_of (fields_of id)))) (λ p. rw p (Pass refl refl)) (λ p. rw p (Block refl refl))))

module _ (w : List ℕ) (f t id : ℕ) (y : two_ports f t ≡ true) (l : List Frame) where
  abbrev said : Said
  said = answer_to (fate_of (verdict_of (decided w f t id)) l)

  -- "Filter answers stay as document 01 has them": a frame that does not pass is answered as `decide` answers it
  pub as_decided : (decided w f t id ≡ done 1 → ⊥) → said ≡ decided w f t id
  unfolding answer_to fate_of
  as_decided other = go (filter_says w f t id y)
    where
      go : Filters (decided w f t id) → answer_to (fate_of (verdict_of (decided w f t id)) l) ≡ decided w f t id
      go (Bad d v) = rw v (sym d)
      go (Block d v) = rw v (sym d)
      go (Pass d v) = absurd (other d)

  -- "26 (turned away) exactly when the filter passes the frame and 64 wait there"
  pub turned_when : said.number ≡ 26 → (decided w f t id ≡ done 1) × (64 ≤ length l)
  unfolding answer_to fate_of
  turned_when e = go (filter_says w f t id y) e
    where
      go : Filters (decided w f t id) → (answer_to (fate_of (verdict_of (decided w f t id)) l)).number ≡ 26 → (decided w f t id ≡ done 1) × (64 ≤ length l)
      go (Bad d v) e = absurd (omega (arith, rw v at e))
      go (Block d v) e = absurd (omega (arith, rw v at e))
      go (Pass d v) e = test (ltb (length l) 64) (λ z. absurd (omega (arith, rw (v, z) at e))) (λ z. (d, ltb-false (length l) 64 z))

  pub when_turned : decided w f t id ≡ done 1 → 64 ≤ length l → said ≡ plain 26
  unfolding answer_to fate_of verdict_of
  when_turned d h = rw (d, le-ltb (length l) 64 h)

  -- and where fewer wait it is queued
  pub when_queued : decided w f t id ≡ done 1 → length l < 64 → said ≡ done 1
  unfolding answer_to fate_of verdict_of
  when_queued d h = rw (d, lt-ltb (length l) 64 h)

  -- the number is one of three
  pub offer_answers : one_of said.number (0 ∷ 1 ∷ 26 ∷ []) ≡ true
  unfolding answer_to fate_of
  offer_answers = go (filter_says w f t id y)
    where
      go : Filters (decided w f t id) → one_of (answer_to (fate_of (verdict_of (decided w f t id)) l)).number (0 ∷ 1 ∷ 26 ∷ []) ≡ true
      go (Bad d v) = rw v
      go (Block d v) = rw v
      go (Pass d v) = rw v (test (ltb (length l) 64) (λ z. rw z) (λ z. rw z))

-- ---- a refusal, on any words

module _ (b : Bridge) (counters-long : length b.counters ≡ 72) (queues-long : length b.queues ≡ 260) (w : List ℕ) (f t id : ℕ) (y : two_ports f t ≡ true) where
  -- the counters of every other pair stay, whatever is answered
  pub others_stay : (f' t' : ℕ) → two_ports f' t' ≡ true → ((f ≡ f') × (t ≡ t') → ⊥) → counters_at (offered_to b w f t id).words.counters (pair_of f' t') ≡ counters_at b.counters (pair_of f' t')
  unfolding words_after
  others_stay f' t' z ne =
      ap (λ (r : Replied). counters_at r.words.counters (pair_of f' t')) (offer_event b w f t id) ∙ noted_other b.counters counters-long f t y _ f' t' z ne

  -- every queue stays where it is 1 or 26
  pub queues_stay : ((answer_to (offered_to b w f t id).fate).number ≡ 0 → ⊥) → (offered_to b w f t id).words.queues ≡ b.queues
  unfolding words_after met_as answer_to
  queues_stay refused =
      ap (λ (r : Replied). r.words.queues) (offer_event b w f t id)
      ∙ go (verdict_of (decided w f t id)) (λ e. refused (ap (λ (r : Replied). (answer_to r.fate).number) (offer_event b w f t id) ∙ e))
    where
      go : (v : Verdict) → ((answer_to (met_as v (enters_at b.queues (t - 1) (word_of f id)) b.queues).fate).number ≡ 0 → ⊥) → (met_as v (enters_at b.queues (t - 1) (word_of f id)) b.queues).queues ≡ b.queues
      go Refuses h = refl
      go Blocks h = refl
      go Passes h =
          test (enters_at b.queues (t - 1) (word_of f id)).fits (λ e. absurd (h (rw e))) (λ e. enter_stays b.queues queues-long (t - 1) (row_below t (port_to f t y)) (word_of f id) e)
