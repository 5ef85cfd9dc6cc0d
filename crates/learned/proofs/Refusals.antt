-- What a refusal leaves: every word, on any words; answer 10 changes the state of its key's row at most. Assumes nothing.
use Prim.Native.Nat.{ℕ, ◌*◌, ◌<◌}
use native.Mathlib.Omega.{arith}
use native.Mathlib.Decide.{dec_lt}
use mathlib.Core.Path.{◌≡◌, refl, sym}
use mathlib.Core.Logic.{◌⊎◌, inl, inr, ⊎_elim}
use mathlib.Core.Option.{Option, none, some}
use mathlib.Core.List.{List}
use lib.Dec.{eqb, lit<}
use lib.ListN.{length, set}
use Rattle.words.proofs.Rows.{set-row-head, put_at-same}
use Rattle.message.specs.declared.Message.{Message}
use Rattle.message.specs.Message.{heard}
use Rattle.words.proofs.Tests.{test}
use Rattle.history.specs.History.{most_keys}
use Rattle.lookup.specs.Layout.{table_words, row_of, slot_of, free_slot}
use Rattle.keyrow.specs.Row.{row_words, key_number, state_word}
use Rattle.table.specs.Learn.{learn_message, taught, learnt}
use Rattle.keyrow.specs.Learn.{learn_numbers, row_fits, learn_row}
use Rattle.table.specs.Forget.{forgotten}
use Rattle.learned.proofs.Learning.{into_row, into_free, no_room_lem}
use Rattle.learned.proofs.Forgetting.{held_before, not-held}

-- ---- a row

-- the answer is 0, or it is 10 and the row is as it was or has another state
row-answers : (r : List ℕ) (m : Message) → ((learn_row r m).answer.number ≡ 0) ⊎ (((learn_row r m).answer.number ≡ 10) × (((learn_row r m).memory ≡ r) ⊎ ((learn_row r m).memory ≡ set r 0 2)))
unfolding learn_numbers
row-answers r m =
    test (eqb (state_word r) 1)
    (λ e. rw e (test (row_fits r m) (λ f. rw f (inl refl)) (λ f. rw f (inr (refl, inr refl)))))
    (λ n. rw n (inr (refl, inl refl)))

-- ---- a message

module _ (t : List ℕ) (long : length t ≡ table_words) (m : Message) where
  -- the row of the message's key
  abbrev slot : ℕ
  slot = slot_of t (key_number m.key)

  -- answer 10 changes the state of that row, or nothing
  pub ten_marks : (learn_message t m).answer.number ≡ 10 → ((learn_message t m).memory ≡ t) ⊎ ((learn_message t m).memory ≡ set t (slot * row_words) 2)
  ten_marks = go (dec_lt slot most_keys) (dec_lt (free_slot t) most_keys)
    where
      go : Dec (slot < most_keys) → Dec (free_slot t < most_keys)
          → (learn_message t m).answer.number ≡ 10 → ((learn_message t m).memory ≡ t) ⊎ ((learn_message t m).memory ≡ set t (slot * row_words) 2)
      go (yes h) f =
          rw (into_row t long m h)
          (λ q. ⊎_elim (λ z. absurd (omega (arith, q, z)))
          (λ u. ⊎_elim (λ e. inl (rw e (put_at-same row_words t slot (omega (arith, long))))) (λ e. inr (rw e (sym (set-row-head row_words t slot 2 (lit< tt))))) u.1)
          (row-answers (row_of t slot) m))
      go (no h) (yes f) = rw (into_free t long m (omega arith) f) (λ q. absurd (omega (arith, q)))
      go (no h) (no f) = rw (no_room_lem t long m (omega arith) (omega arith)) (λ q. absurd (omega (arith, q)))

  -- and any other answer but 0 changes nothing
  pub message_leaves : ((learn_message t m).answer.number ≡ 0 → ⊥) → ((learn_message t m).answer.number ≡ 10 → ⊥) → (learn_message t m).memory ≡ t
  message_leaves = go (dec_lt slot most_keys) (dec_lt (free_slot t) most_keys)
    where
      go : Dec (slot < most_keys) → Dec (free_slot t < most_keys)
          → ((learn_message t m).answer.number ≡ 0 → ⊥) → ((learn_message t m).answer.number ≡ 10 → ⊥) → (learn_message t m).memory ≡ t
      go (yes h) f = rw (into_row t long m h) (λ z x. ⊎_elim (λ q. absurd (z q)) (λ u. absurd (x u.0)) (row-answers (row_of t slot) m))
      go (no h) (yes f) = rw (into_free t long m (omega arith) f) (λ z x. absurd (z refl))
      go (no h) (no f) = rw (no_room_lem t long m (omega arith) (omega arith)) (λ z x. refl)

  -- the number is 0, 9 or 10
  pub message-numbers : ((learn_message t m).answer.number ≡ 0) ⊎ (((learn_message t m).answer.number ≡ 9) ⊎ ((learn_message t m).answer.number ≡ 10))
  message-numbers = go (dec_lt slot most_keys) (dec_lt (free_slot t) most_keys)
    where
      go : Dec (slot < most_keys) → Dec (free_slot t < most_keys)
          → ((learn_message t m).answer.number ≡ 0) ⊎ (((learn_message t m).answer.number ≡ 9) ⊎ ((learn_message t m).answer.number ≡ 10))
      go (yes h) f = rw (into_row t long m h) (⊎_elim inl (λ u. inr (inr u.0)) (row-answers (row_of t slot) m))
      go (no h) (yes f) = rw (into_free t long m (omega arith) f) (inl refl)
      go (no h) (no f) = rw (no_room_lem t long m (omega arith) (omega arith)) (inr (inl refl))

-- ---- a call

-- any answer to a frame but 0 and 10 leaves every word
pub refusal_leaves : (t : List ℕ) → length t ≡ table_words → (id len : ℕ) (d : List ℕ) → ((learnt t id len d).answer.number ≡ 0 → ⊥) → ((learnt t id len d).answer.number ≡ 10 → ⊥)
    → (learnt t id len d).memory ≡ t
unfolding learnt
refusal_leaves t long id len d = go (heard id len d).message
  where
    go : (o : Option Message) → ((taught t (heard id len d).number o).answer.number ≡ 0 → ⊥) → ((taught t (heard id len d).number o).answer.number ≡ 10 → ⊥)
        → (taught t (heard id len d).number o).memory ≡ t
    go none z x = refl
    go (some m) z x = message_leaves t long m z x

-- and any answer to a forget but 0
pub eleven_leaves : (t : List ℕ) (key : ℕ) → ((forgotten t key).answer.number ≡ 0 → ⊥) → (forgotten t key).memory ≡ t
eleven_leaves t key = go (dec_lt (slot_of t key) most_keys)
  where
    go : Dec (slot_of t key < most_keys) → ((forgotten t key).answer.number ≡ 0 → ⊥) → (forgotten t key).memory ≡ t
    go (yes h) = rw (held_before t key h) (λ z. absurd (z refl))
    go (no h) = rw (not-held t key (omega arith)) (λ z. refl)
