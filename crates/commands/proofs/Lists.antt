-- A row's words after a command mean what the command makes of the pair, and no PGN is ever listed twice. Assumes nothing.
use mathlib.Core.Path.{◌≡◌, refl, sym, ap, ◌∙◌}
use mathlib.Core.Bool.{true, false, ◌&&◌, ◌||◌, not, cond, or-true, and-eq-true_iff, true≢false}
use mathlib.Core.List.{List}
use Prim.Native.Nat.{ℕ, ◌+◌, ◌-◌, ◌≤◌, ◌<◌}
use native.Mathlib.Decide.{dec_lt, ℕ_discrete}
use native.Mathlib.Omega.{arith}
use borrow.Author.Tests.{ltb-true, ltb-false, eqb-true, eqb-false, lt-ltb, le-ltb, eq-eqb, ne_eqb, leb-false, not-true, not-false}
use lib.Dec.{T, eqb, ltb}
use lib.ListN.{length, get_or, set, length-set}
use lib.Seq.{get_or-set_same, get_or-set_other}
use Rattle.words.proofs.Tests.{test, same_test}
use Rattle.answers.specs.Tests.{first_number_of}
use Rattle.answers.proofs.Tests.{None, numbered, none_applies}
use Rattle.words.proofs.First.{first_holds, first_below}
use Rattle.pairs.specs.declared.Command.{Command}
use Rattle.pairs.specs.declared.Command.TheVariants.{Add, Delete, Renew}
use Rattle.pairs.specs.Pairs.{Pair, pair_with, tests_for, answer_to, obeyed, step_pair}
use Rattle.pairs.specs.Row.{mode_in, count_in, entry_in, listed_in, pair_in, edited, rewritten, row_after, ListedOnce}

-- ---- what a row lists

-- the count is at most 32
pub count_most : (r : List ℕ) → count_in r ≤ 32
unfolding count_in
count_most r = test (ltb 32 (get_or r 1 0)) (λ e. rw e (omega arith)) (λ e. rw e (ltb-false 32 (get_or r 1 0) e))

pub count-is : (r : List ℕ) (n : ℕ) → get_or r 1 0 ≡ n → n ≤ 32 → count_in r ≡ n
unfolding count_in
count-is r n e h = rw (e, le-ltb 32 n h)

-- a listed PGN stands at its place
pub place-holds : (r : List ℕ) (g : ℕ) → entry_in r g < count_in r → get_or r (2 + entry_in r g) 0 ≡ g
unfolding entry_in
place-holds r g h = eqb-true _ g (first_holds (λ k. eqb (get_or r (2 + k) 0) g) (count_in r) h)

-- a PGN that stands at a place below the count is listed
pub listed_at : (r : List ℕ) (g k : ℕ) → k < count_in r → get_or r (2 + k) 0 ≡ g → listed_in r g ≡ true
unfolding entry_in
listed_at r g k h e = go (dec_lt (entry_in r g) (count_in r))
  where
    go : Dec (entry_in r g < count_in r) → listed_in r g ≡ true
    go (yes l) = lt-ltb (entry_in r g) (count_in r) l
    go (no l) =
        let b = first_below (λ k. eqb (get_or r (2 + k) 0) g) (count_in r) k (omega arith) in
        absurd (eqb-false (get_or r (2 + k) 0) g b e)

-- ---- a row with another PGN at place p and another count: what add and delete write

module _ (r : List ℕ) (long : length r ≡ 34) (p v n : ℕ) where
  edit_mode : mode_in (edited r p v n) ≡ mode_in r
  edit_mode =
      ap (λ (m : ℕ). cond (eqb m 0) 0 1) (get_or-set_other (set r (2 + p) v) 1 0 n 0 (omega arith) ∙ get_or-set_other r (2 + p) 0 v 0 (omega arith))

  edit_count : n ≤ 32 → count_in (edited r p v n) ≡ n
  edit_count h = count-is (edited r p v n) n (get_or-set_same (set r (2 + p) v) 1 n 0 (simp length-set (omega arith))) h

  edit_same : p < 32 → get_or (edited r p v n) (2 + p) 0 ≡ v
  edit_same h = get_or-set_other (set r (2 + p) v) 1 (2 + p) n 0 (omega arith) ∙ get_or-set_same r (2 + p) v 0 (omega arith)

  edit_other : (k : ℕ) → (k ≡ p → ⊥) → get_or (edited r p v n) (2 + k) 0 ≡ get_or r (2 + k) 0
  edit_other k ne = get_or-set_other (set r (2 + p) v) 1 (2 + k) n 0 (omega arith) ∙ get_or-set_other r (2 + p) (2 + k) v 0 (omega arith)

-- ---- each command

-- add: the PGN is listed too, at the end
module _ (r : List ℕ) (long : length r ≡ 34) (g : ℕ) (fits : count_in r < 32) where
  abbrev added : List ℕ
  added = edited r (count_in r) g (count_in r + 1)

  added-count : count_in added ≡ count_in r + 1
  added-count = edit_count r long (count_in r) g (count_in r + 1) (omega arith)

  added-cell : (k : ℕ) → k < count_in r → get_or added (2 + k) 0 ≡ get_or r (2 + k) 0
  added-cell k h = edit_other r long (count_in r) g (count_in r + 1) k (omega arith)

  added-last : get_or added (2 + count_in r) 0 ≡ g
  added-last = edit_same r long (count_in r) g (count_in r + 1) fits

  added-lists : (x : ℕ) → listed_in added x ≡ (eqb x g || listed_in r x)
  added-lists x = same_test (listed_in added x) (eqb x g || listed_in r x) there back
    where
      there : listed_in added x ≡ true → (eqb x g || listed_in r x) ≡ true
      there e =
          let l : entry_in added x < count_in added = ltb-true (entry_in added x) (count_in added) e in
          let q = place-holds added x l in
          go (entry_in added x) (rw added-count at l) q (ℕ_discrete (entry_in added x) (count_in r))
        where
          go : (k : ℕ) → k < count_in r + 1 → get_or added (2 + k) 0 ≡ x → Dec (k ≡ count_in r) → (eqb x g || listed_in r x) ≡ true
          go k l q (yes e) = rw (eq-eqb x g (sym q ∙ rw e added-last))
          go k l q (no ne) = rw (listed_at r x k (omega arith) (sym (added-cell k (omega arith)) ∙ q)) (or-true (eqb x g))

      back : (eqb x g || listed_in r x) ≡ true → listed_in added x ≡ true
      back e =
          test (eqb x g)
          (λ y. listed_at added x (count_in r) (rw added-count (omega arith)) (added-last ∙ sym (eqb-true x g y)))
          (λ n. let l : entry_in r x < count_in r = ltb-true (entry_in r x) (count_in r) (rw n at e) in
          listed_at added x (entry_in r x) (rw added-count (omega arith)) (added-cell (entry_in r x) l ∙ place-holds r x l))

  added-once : ListedOnce r → listed_in r g ≡ false → ListedOnce added
  unfolding ListedOnce
  added-once once new j k jl kl = go (ℕ_discrete j (count_in r)) (ℕ_discrete k (count_in r)) (rw added-count at jl) (rw added-count at kl)
    where
      -- the new PGN stands at no other place
      apart : (i : ℕ) → i < count_in r → get_or added (2 + i) 0 ≡ get_or added (2 + count_in r) 0 → ⊥
      apart i l e = true≢false (sym (listed_at r g i l (sym (added-cell i l) ∙ e ∙ added-last)) ∙ new)

      go : Dec (j ≡ count_in r) → Dec (k ≡ count_in r) → j < count_in r + 1 → k < count_in r + 1 → get_or added (2 + j) 0 ≡ get_or added (2 + k) 0 → j ≡ k
      go (yes e) (yes e') jl kl q = e ∙ sym e'
      go (yes e) (no ne) jl kl q = absurd (apart k (omega arith) (sym (rw e at q)))
      go (no ne) (yes e) jl kl q = absurd (apart j (omega arith) (rw e at q))
      go (no ne) (no ne') jl kl q =
          once j k (omega arith) (omega arith) (sym (added-cell j (omega arith)) ∙ q ∙ added-cell k (omega arith))

-- delete: the PGN is listed no more, since it stood at one place
module _ (r : List ℕ) (long : length r ≡ 34) (g : ℕ) (once : ListedOnce r) (held : entry_in r g < count_in r) where
  abbrev deleted : List ℕ
  deleted = edited r (entry_in r g) (get_or r (1 + count_in r) 0) (count_in r - 1)

  deleted_count : count_in deleted ≡ count_in r - 1
  deleted_count = edit_count r long (entry_in r g) (get_or r (1 + count_in r) 0) (count_in r - 1) (omega (arith, count_most r))

  deleted_cell : (k : ℕ) → (k ≡ entry_in r g → ⊥) → get_or deleted (2 + k) 0 ≡ get_or r (2 + k) 0
  deleted_cell = edit_other r long (entry_in r g) (get_or r (1 + count_in r) 0) (count_in r - 1)

  -- the last PGN has its place
  deleted_place : get_or deleted (2 + entry_in r g) 0 ≡ get_or r (2 + (count_in r - 1)) 0
  deleted_place =
      let e : 1 + count_in r ≡ 2 + (count_in r - 1) = omega arith in
      edit_same r long (entry_in r g) (get_or r (1 + count_in r) 0) (count_in r - 1) (omega (arith, count_most r)) ∙ ap (λ (k : ℕ). get_or r k 0) e

  -- what stands at a place now stood at a place before, and not at the deleted one
  was : (k : ℕ) → k < count_in r - 1 → (i : ℕ) × (i < count_in r) × (get_or deleted (2 + k) 0 ≡ get_or r (2 + i) 0) × (i ≡ entry_in r g → ⊥)
  was k l = go (ℕ_discrete k (entry_in r g))
    where
      go : Dec (k ≡ entry_in r g) → (i : ℕ) × (i < count_in r) × (get_or deleted (2 + k) 0 ≡ get_or r (2 + i) 0) × (i ≡ entry_in r g → ⊥)
      go (yes e) = (count_in r - 1, omega arith, rw e deleted_place, omega arith)
      go (no ne) = (k, omega arith, deleted_cell k ne, ne)

  deleted_lists : (x : ℕ) → listed_in deleted x ≡ (not (eqb x g) && listed_in r x)
  unfolding ListedOnce
  deleted_lists x = same_test (listed_in deleted x) (not (eqb x g) && listed_in r x) there back
    where
      there : listed_in deleted x ≡ true → (not (eqb x g) && listed_in r x) ≡ true
      there e =
          let l = ltb-true (entry_in deleted x) (count_in deleted) e in
          let (i, il, q, ne) = was (entry_in deleted x) (rw deleted_count at l) in
          let s : get_or r (2 + i) 0 ≡ x = sym q ∙ place-holds deleted x l in
          rw (ne_eqb x g (λ y. ne (once i (entry_in r g) il held (s ∙ y ∙ sym (place-holds r g held)))), listed_at r x i il s)

      back : (not (eqb x g) && listed_in r x) ≡ true → listed_in deleted x ≡ true
      back e =
          let (n, y) = (and-eq-true_iff (not (eqb x g)) (listed_in r x)).0 e in
          let l = ltb-true (entry_in r x) (count_in r) y in
          let s = place-holds r x l in
          let ne : entry_in r x ≡ entry_in r g → ⊥ = λ q. eqb-false x g (not-true (eqb x g) n) (sym s ∙ rw q (place-holds r g held)) in
          go (entry_in r x) l s ne (ℕ_discrete (entry_in r x) (count_in r - 1))
        where
          go : (k : ℕ) → k < count_in r → get_or r (2 + k) 0 ≡ x → (k ≡ entry_in r g → ⊥) → Dec (k ≡ count_in r - 1) → listed_in deleted x ≡ true
          go k l s ne (yes q) = listed_at deleted x (entry_in r g) (rw deleted_count (omega arith)) (deleted_place ∙ rw (← q) s)
          go k l s ne (no n) = listed_at deleted x k (rw deleted_count (omega arith)) (deleted_cell k ne ∙ s)

  deleted_once : ListedOnce deleted
  unfolding ListedOnce
  deleted_once j k jl kl e = go (ℕ_discrete j (entry_in r g)) (ℕ_discrete k (entry_in r g)) (rw deleted_count at jl) (rw deleted_count at kl)
    where
      -- the PGN that has the deleted one's place was the last, and stands nowhere else
      moved : (i : ℕ) → i < count_in r - 1 → (i ≡ entry_in r g → ⊥) → get_or deleted (2 + i) 0 ≡ get_or deleted (2 + entry_in r g) 0 → ⊥
      moved i l ne q =
          let s = once i (count_in r - 1) (omega arith) (omega arith) (sym (deleted_cell i ne) ∙ q ∙ deleted_place) in
          omega arith

      go : Dec (j ≡ entry_in r g) → Dec (k ≡ entry_in r g) → j < count_in r - 1 → k < count_in r - 1 → j ≡ k
      go (yes a) (yes b) jl kl = a ∙ sym b
      go (yes a) (no b) jl kl = absurd (moved k kl b (sym e ∙ rw a))
      go (no a) (yes b) jl kl = absurd (moved j jl a (e ∙ rw b))
      go (no a) (no b) jl kl = once j k (omega arith) (omega arith) (sym (deleted_cell j a) ∙ e ∙ deleted_cell k b)

-- renew: nothing is listed, and the mode is the new one
module _ (r : List ℕ) (long : length r ≡ 34) (m : ℕ) where
  abbrev renewed : List ℕ
  renewed = set (set r 0 m) 1 0

  renewed_count : count_in renewed ≡ 0
  renewed_count = count-is renewed 0 (get_or-set_same (set r 0 m) 1 0 0 (simp length-set (omega arith))) (omega arith)

  renewed_lists : (x : ℕ) → listed_in renewed x ≡ false
  renewed_lists x = rw renewed_count (le-ltb (entry_in renewed x) 0 (omega arith))

  renewed_mode : m ≤ 1 → mode_in renewed ≡ m
  renewed_mode h = rw (get_or-set_other (set r 0 m) 1 0 0 0 (omega arith), get_or-set_same r 0 m 0 (omega arith)) (go (ℕ_discrete m 0))
    where
      go : Dec (m ≡ 0) → cond (eqb m 0) 0 1 ≡ m
      go (yes e) = rw e
      go (no ne) = rw (ne_eqb m 0 ne) (omega arith)

  renewed_once : ListedOnce renewed
  unfolding ListedOnce
  renewed_once j k jl kl e = absurd (omega (arith, renewed_count))

-- ---- any command

-- a command leaves a row as long as it was
pub row-long : (r : List ℕ) (c : Command) → length (row_after r c) ≡ length r
unfolding row_after rewritten
row-long r c = test (eqb (answer_to (pair_in r) c) 0) (λ y. rw y (go c)) (λ n. rw n)
  where
    go : (c : Command) → length (rewritten r c) ≡ length r
    go (Add g) = test (listed_in r g) (λ y. rw y) (λ n. rw n (simp length-set))
    go (Delete g) = simp length-set
    go (Renew m) = simp length-set

-- a row of 34 words in which no PGN stands twice
pub record Tidy (r : List ℕ) : Type 0 where
  pub long : length r ≡ 34
  pub once : ListedOnce r

-- one mode, one set, one count: one pair, so every answer is the same, in whatever order the PGNs stand
pub same-pair : {p q : Pair} → p.mode ≡ q.mode → ((x : ℕ) → p.listed x ≡ q.listed x) → p.count ≡ q.count → p ≡ q
same-pair m l n = λ i. pair_with (m i) (λ x. l x i) (n i)

-- where none of a command's tests applies, the row that is written means what the command makes of the pair
obeys : (r : List ℕ) → Tidy r → (c : Command) → None (tests_for (pair_in r) c) → (pair_in (rewritten r c) ≡ obeyed (pair_in r) c) × ListedOnce (rewritten r c)
unfolding rewritten obeyed
obeys r t (Add g) (_, (no-16, _)) =
    test (listed_in r g) (λ y. rw y (refl, t.once))
    (λ n.
    let fits = leb-false 32 (count_in r) (rw n at no-16) in
    rw n (
      same-pair (edit_mode r t.long (count_in r) g (count_in r + 1)) (added-lists r t.long g fits) (added-count r t.long g fits),
      added-once r t.long g fits t.once n,
    ))
obeys r t (Delete g) (_, (no-18, _)) =
    let held = ltb-true (entry_in r g) (count_in r) (not-false (listed_in r g) no-18) in
    let l = t.long in
    let o = t.once in (
      same-pair (edit_mode r l (entry_in r g) (get_or r (1 + count_in r) 0) (count_in r - 1)) (deleted_lists r l g o held) (deleted_count r l g o held),
      deleted_once r l g o held,
    )
obeys r t (Renew m) (no-19, _) =
    let l = t.long in
    (same-pair (renewed_mode r l m (ltb-false 1 m no-19)) (renewed_lists r l m) (renewed_count r l m), renewed_once r l m)

-- no command has a test for 0
pub all_numbered : (p : Pair) (c : Command) → T (numbered (tests_for p c))
all_numbered p (Add g) = tt
all_numbered p (Delete g) = tt
all_numbered p (Renew m) = tt

-- the words after a command mean what the command makes of the pair; a refusal leaves both
pub row_steps : (r : List ℕ) → Tidy r → (c : Command) → (pair_in (row_after r c) ≡ step_pair (pair_in r) c) × ListedOnce (row_after r c)
unfolding row_after step_pair answer_to
row_steps r t c =
    let ts = tests_for (pair_in r) c in
    test (eqb (first_number_of ts 0) 0) (λ y. rw y (obeys r t c (none_applies ts (all_numbered (pair_in r) c) (eqb-true (first_number_of ts 0) 0 y)))) (λ n. rw n (refl, t.once))
