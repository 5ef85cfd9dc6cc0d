-- Demand 1 on the filters, on any words: a call's number is one of a fixed list, that of the first test that applies (specs/Refusals.antt); a
-- refusal leaves every word; a command leaves every other pair's row. Assumes nothing.
use mathlib.Core.Path.{subst, ◌≡◌, refl, sym, ap, ◌∙◌}
use mathlib.Core.Bool.{Bool, true, false, not, ◌&&◌, cond}
use mathlib.Core.List.{List, [], ◌∷◌}
use Prim.Native.Nat.{ℕ, ◌+◌, ◌*◌, ◌<◌, ◌≤◌}
use native.Mathlib.Omega.{arith}
use lib.Dec.{T, eqb}
use lib.ListN.{length}
use Rattle.words.specs.Rows.{row_at, put_at}
use Rattle.words.proofs.Tests.{test, never}
use Rattle.words.proofs.Rows.{length-row_at, length-put_at, row_at-put_at, row_at-put_at-other, put_at-same}
use Rattle.answers.specs.Answers.{Said, plain, done, Outcome, outcome}
use Rattle.answers.specs.Tests.{Test, in_order, first_number_of, tested}
use Rattle.answers.proofs.Tests.{numbered, one_of, numbers_by, from-answers, leaves}
use Rattle.frame.specs.Frame.{fields_of, pgn_of}
use Rattle.pairs.specs.declared.Command.{Command}
use Rattle.pairs.specs.declared.Command.TheVariants.{Add, Delete, Renew}
use Rattle.pairs.specs.Pairs.{passes, tests_for, answer_to, decided_by}
use Rattle.pairs.specs.Row.{rewritten, row_after}
use Rattle.ports.specs.Filters.{two_ports, pair_of, pair_row, pair_at, commanded, decided}
use Rattle.ports.proofs.Numbers.{Two, two, number_fits}
use Rattle.commands.specs.Refusals.{plainly, command_tests, decide_tests}
use Rattle.commands.proofs.Numbers.{number_own}
use Rattle.commands.proofs.Lists.{row-long, all_numbered}

-- ---- a command to row i, on words that are long enough

module _ (w : List ℕ) (long : length w ≡ 408) (c : Command) (i : ℕ) (h : i < 12) where
  abbrev put' : List ℕ
  put' = put_at 34 w i (row_after (row_at 34 w i) c)

  fits : i * 34 + 34 ≤ length w
  fits = rw long (omega arith)

  pub row_long' : length (row_after (row_at 34 w i) c) ≡ 34
  row_long' = row-long (row_at 34 w i) c ∙ length-row_at 34 w i fits

  pub put-long : length put' ≡ 408
  put-long = length-put_at 34 w i fits (row_after (row_at 34 w i) c) row_long' ∙ long

  pub own_row : row_at 34 put' i ≡ row_after (row_at 34 w i) c
  own_row = row_at-put_at 34 w i fits (row_after (row_at 34 w i) c) row_long'

  pub other_row : (j : ℕ) → j < 12 → (j ≡ i → ⊥) → row_at 34 put' j ≡ row_at 34 w j
  other_row j l ne = row_at-put_at-other 34 w i fits (row_after (row_at 34 w i) c) row_long' j ne (rw long (omega arith))

-- ---- tests in order

-- the first number and what it leaves, as one call with tests in order
by_tests : (ts : List (Test ℕ)) → T (numbered ts) → (w v : List ℕ)
    → outcome (plain (first_number_of ts 0)) (cond (eqb (first_number_of ts 0) 0) v w) ≡ tested (plainly ts) w (outcome (plain 0) v)
by_tests [] h w v = refl
by_tests (t ∷ ts) h w v = go (eqb t.answer 0) refl h (λ g. by_tests ts g w v)
  where
    go : (z : Bool) → eqb t.answer 0 ≡ z → T (not z && numbered ts)
        → (T (numbered ts) → outcome (plain (first_number_of ts 0)) (cond (eqb (first_number_of ts 0) 0) v w) ≡ tested (plainly ts) w (outcome (plain 0) v))
        → outcome (plain (first_number_of (t ∷ ts) 0)) (cond (eqb (first_number_of (t ∷ ts) 0) 0) v w) ≡ tested (plainly (t ∷ ts)) w (outcome (plain 0) v)
    go true q h ih = absurd h
    go false q h ih = test t.applies (λ y. rw (y, q)) (λ n. rw n (ih h))

-- a number of a list is none that the list has not
not_20 : (n : ℕ) (l : List ℕ) → one_of 20 l ≡ false → one_of n l ≡ true → n ≡ 20 → ⊥
not_20 n l lacks has e = never (rw e at has) lacks

-- what a command does where no test applies
abbrev pub carried_out : List ℕ → ℕ → ℕ → Command → Outcome
carried_out w f t c = outcome (plain 0) (put_at 34 w (pair_of f t) (rewritten (pair_row w f t) c))

module _ (w : List ℕ) (long : length w ≡ 408) (f t : ℕ) where
  -- a command is its tests in order
  pub in_order_lem : (c : Command) → commanded w f t c ≡ tested (command_tests w f t c) w (carried_out w f t c)
  unfolding commanded row_after answer_to
  in_order_lem c =
      test (two_ports f t)
      (λ y. rw y
      (ap (outcome (plain (first_number_of ts 0))) (put_back (eqb (first_number_of ts 0) 0) (number_fits f t y))
      ∙ by_tests ts (all_numbered (pair_at w f t) c) w (put_at 34 w (pair_of f t) (rewritten (pair_row w f t) c))))
      (λ n. rw n)
    where
      ts : List (Test ℕ)
      ts = tests_for (pair_at w f t) c

      put_back : (b : Bool) → pair_of f t < 12
          → put_at 34 w (pair_of f t) (cond b (rewritten (pair_row w f t) c) (pair_row w f t)) ≡ cond b (put_at 34 w (pair_of f t) (rewritten (pair_row w f t) c)) w
      put_back true h = refl
      put_back false h = put_at-same 34 w (pair_of f t) (fits w long c (pair_of f t) h)

  -- ---- the numbers of each call

  of_command : (c : Command) → one_of (commanded w f t c).answer.number (0 ∷ numbers_by (λ a. a.number) (command_tests w f t c)) ≡ true
  of_command c =
      let P : Outcome → Type 0 = λ o. one_of o.answer.number (0 ∷ numbers_by (λ a. a.number) (command_tests w f t c)) ≡ true in
      subst P (sym (in_order_lem c)) (from-answers (λ o. o.answer.number) (λ a. outcome a w) (λ a. refl) (command_tests w f t c) (carried_out w f t c))

  pub add-answers : (g : ℕ) → one_of (commanded w f t (Add g)).answer.number (0 ∷ 15 ∷ 17 ∷ 16 ∷ []) ≡ true
  add-answers g = of_command (Add g)

  pub delete_answers : (g : ℕ) → one_of (commanded w f t (Delete g)).answer.number (0 ∷ 15 ∷ 17 ∷ 18 ∷ []) ≡ true
  delete_answers g = of_command (Delete g)

  pub renew_answers : (m : ℕ) → one_of (commanded w f t (Renew m)).answer.number (0 ∷ 15 ∷ 19 ∷ []) ≡ true
  renew_answers m = of_command (Renew m)

  -- "Answer 20 is never given again": by no command, and by no decision (below)
  pub never_20 : (c : Command) → (commanded w f t c).answer.number ≡ 20 → ⊥
  never_20 (Add g) = not_20 _ (0 ∷ 15 ∷ 17 ∷ 16 ∷ []) refl (add-answers g)
  never_20 (Delete g) = not_20 _ (0 ∷ 15 ∷ 17 ∷ 18 ∷ []) refl (delete_answers g)
  never_20 (Renew m) = not_20 _ (0 ∷ 15 ∷ 19 ∷ []) refl (renew_answers m)

  -- a refusal leaves all words
  pub refusal_stays : (c : Command) → ((commanded w f t c).answer.number ≡ 0 → ⊥) → (commanded w f t c).memory ≡ w
  refusal_stays c refused = rw (in_order_lem c) (leaves (command_tests w f t c) w (carried_out w f t c) (rw (in_order_lem c) at refused))

  -- the words of every other pair are as they were
  pub others_stay : (c : Command) (f' t' : ℕ) → two_ports f' t' ≡ true → ((f ≡ f') × (t ≡ t') → ⊥) → pair_row (commanded w f t c).memory f' t' ≡ pair_row w f' t'
  unfolding commanded
  others_stay c f' t' y' ne =
      test (two_ports f t)
      (λ y. rw y
      (other_row w long c (pair_of f t) (number_fits f t y) (pair_of f' t') (number_fits f' t' y') (λ q. ne (number_own f t f' t' y y' (sym q)))))
      (λ n. rw n)

-- the deciding call is lent its words to read, and leaves them by its type
module _ (w : List ℕ) (f t id : ℕ) where
  abbrev decision : Said
  decision = done (cond (passes (pair_at w f t).mode ((pair_at w f t).listed (pgn_of (fields_of id)))) 1 0)

  pub decide_in_order : decided w f t id ≡ in_order (λ a. a) (decide_tests f t id) decision
  unfolding decided decided_by
  decide_in_order = test (two_ports f t) (λ y. rw y) (λ n. rw n)

  pub decide_answers : one_of (decided w f t id).number (0 ∷ 15 ∷ 1 ∷ []) ≡ true
  decide_answers = rw decide_in_order (from-answers (λ a. a.number) (λ a. a) (λ a. refl) (decide_tests f t id) decision)

  pub decide_never_20 : (decided w f t id).number ≡ 20 → ⊥
  decide_never_20 = not_20 _ (0 ∷ 15 ∷ 1 ∷ []) refl decide_answers

-- "port 15 stays refused", and so do 0, 5, 255 and two equal ports: whatever is no two different ports, each 1 to 4
pub ports_refused : (w : List ℕ) (f t : ℕ) (c : Command) → (Two f t → ⊥) → commanded w f t c ≡ outcome (plain 15) w
unfolding commanded
ports_refused w f t c none = test (two_ports f t) (λ y. absurd (none (two f t y))) (λ n. rw n)

pub port_15 : (w : List ℕ) (n : ℕ) (c : Command) → (commanded w n 15 c ≡ outcome (plain 15) w) × (commanded w 15 n c ≡ outcome (plain 15) w)
port_15 w n c = (ports_refused w n 15 c (λ p. omega (arith, p.to-most)), ports_refused w 15 n c (λ p. omega (arith, p.from-most)))
