-- What the functions cite: each answer by the tests on its way, with the row that it leaves; a row that is lent and comes back. Assumes nothing.
use mathlib.Core.Path.{◌≡◌, refl, sym, ap, subst, ◌∙◌}
use mathlib.Core.Bool.{Bool, true, false, ◌||◌}
use mathlib.Core.List.{List, [], ◌++◌, append-nil}
use Prim.Native.Nat.{ℕ, zero, suc, ◌+◌, ◌*◌, ◌-◌, ◌/◌, ◌≤◌, ◌<◌, min}
use borrow.Author.Tests.{lt-ltb, le-ltb, le-leb, lt-leb, eq-eqb, ne_eqb}
use lib.Dec.{eqb}
use native.Mathlib.Omega.{arith}
use native.Mathlib.Decide.{dec_lt}
use Rattle.std.specs.Prelude.{Option, None, Some, is_some}
use borrow.Author.Count.{below_more}
use Rattle.words.specs.First.{first, any}
use Rattle.std.proofs.lemmas.Bool.{true≢false}
use Rattle.words.proofs.First.{first-at, first_none, first_below, first_holds}
use Rattle.words.proofs.Lowest.{any_at, any_found, any-each, any-more}
use lib.ListN.{length, take, drop, get_or, set, length-take, length-drop, drop_of_length-le}
use lib.Seq.{take_all, drop-drop}
use native.Mathlib.Nat.{not-suc-le-zero, le_of_suc-le-suc}
use Rattle.std.specs.Simd.{first_chunks}
use Rattle.words.specs.Rows.{row_at, put_at}
use Rattle.words.proofs.Rows.{part_is-row, back_is-put}
use Rattle.pairs.specs.declared.Command.{Command}
use Rattle.pairs.specs.declared.Command.TheVariants.{Add, Delete, Renew}
use Rattle.pairs.specs.Pairs.{passes, ill_formed, answer_to}
use Rattle.pairs.specs.Row.{mode_in, count_in, entry_in, listed_in, IsPlace, edited, rewritten, row_after, Noted, noted, row_obeys, obeys_at, passes_at}

-- the second word, or 32 where it is more
pub least : (r : List ℕ) (n : ℕ) → n ≡ min 32 (get_or r 1 0) → n ≡ count_in r
unfolding count_in
least r n e =
    elim (dec_lt 32 (get_or r 1 0)) [
      | yes h ↦ rw (lt-ltb 32 (get_or r 1 0) h) (omega arith)
      | no h ↦ rw (le-ltb 32 (get_or r 1 0) (omega arith)) (omega arith)
    ]

-- the tests passed so far, and one more
pub any_none : (p : ℕ → Bool) → false ≡ any p 0
unfolding any
any_none p = sym (le-ltb (first p 0) 0 (omega arith))

module _ (p : ℕ → Bool) (k : ℕ) where
  found_still : first p k < k → any p (k + 1) ≡ true
  unfolding any
  found_still h = rw (first-at p (k + 1) (first p k) (omega (arith, h)) (first_below p k) (first_holds p k h)) (lt-ltb (first p k) (k + 1) (omega (arith, h)))

  none_yet : k ≤ first p k → (j : ℕ) → j < k → p j ≡ false
  none_yet h j l = first_below p k j (omega (arith, h, l))

  pub any-here : p k ≡ true → true ≡ any p (k + 1)
  unfolding any
  any-here t =
      elim (dec_lt (first p k) k) [
        | yes h ↦ sym (found_still h)
        | no h ↦ rw (first-at p (k + 1) k (omega arith) (none_yet (omega (arith, h))) t) (sym (lt-ltb k (k + 1) (omega arith)))
      ]

  pub any-past : p k ≡ false → any p k ≡ any p (k + 1)
  unfolding any
  any-past f =
      elim (dec_lt (first p k) k) [
        | yes h ↦ lt-ltb (first p k) k h ∙ sym (found_still h)
        | no h ↦ le-ltb (first p k) k (omega (arith, h))
            ∙ sym (rw (first_none p (k + 1) (below_more _ _ (none_yet (omega (arith, h))) f)) (le-ltb (k + 1) (k + 1) (omega arith)))
      ]

pub any-listed : (r : List ℕ) (g : ℕ) {k : ℕ} {b : Bool} → k ≡ count_in r → b ≡ any (λ (j : ℕ). eqb (get_or r (2 + j) 0) g) k → b ≡ listed_in r g
unfolding any entry_in
any-listed r g e a = rw e at a

-- an empty list has no PGN
pub none-listed : (r : List ℕ) (g : ℕ) {n : ℕ} → n ≡ count_in r → n ≡ 0 → false ≡ listed_in r g
unfolding any entry_in
none-listed r g e z = any-listed r g e (any_none (λ (j : ℕ). eqb (get_or r (2 + j) 0) g) ∙ ap (any (λ (j : ℕ). eqb (get_or r (2 + j) 0) g)) (sym z))

-- four entries at a time: those passed so far, and whether one of the next four is the PGN
module _ (r : List ℕ) (g : ℕ) where
  abbrev entry : ℕ → Bool
  entry j = eqb (get_or r (2 + j) 0) g

  pub four_more : (i : ℕ) {b : Bool} → b ≡ (eqb (get_or r (2 + 4 * i) 0) g || eqb (get_or r (2 + 4 * i + 1) 0) g || eqb (get_or r (2 + 4 * i + 2) 0) g || eqb (get_or r (2 + 4 * i + 3) 0) g)
      → any entry (4 * i) ≡ false → any entry (4 * (i + 1)) ≡ b
  four_more i h none =
      let e : 4 * (i + 1) ≡ suc (suc (suc (suc (4 * i)))) = omega arith in
      let x : 2 + suc (4 * i) ≡ 2 + 4 * i + 1 = omega arith in
      let y : 2 + suc (suc (4 * i)) ≡ 2 + 4 * i + 2 = omega arith in
      let z : 2 + suc (suc (suc (4 * i))) ≡ 2 + 4 * i + 3 = omega arith in
      rw (e, any-more entry (suc (suc (suc (4 * i)))), any-more entry (suc (suc (4 * i))), any-more entry (suc (4 * i)), any-more entry (4 * i), none, x, y, z) (sym h)

  -- none of them is the PGN
  pub none-passed : {m : ℕ} → any entry m ≡ false → (j : ℕ) → j < m → get_or r (2 + j) 0 ≡ g → ⊥
  none-passed {m} h j l e = absurd (true≢false (sym (eq-eqb (get_or r (2 + j) 0) g e) ∙ any-each entry m h j l))

  -- one of the first m is listed where that many are
  pub one_listed : {n m : ℕ} → n ≡ count_in r → m ≤ n → any entry m ≡ true → true ≡ listed_in r g
  one_listed {n} {m} e l y = let (h, t) = any_found entry m y in any-listed r g e (sym (any_at entry n (first entry m) (omega (arith, h, l)) t))

-- what a search for a PGN found says whether it is listed, and where
module _ (r : List ℕ) (g : ℕ) where
  pub place-is : (k : ℕ) → IsPlace r g (Some k) → k ≡ entry_in r g
  unfolding entry_in
  place-is k (l, y, n) = sym (first-at _ _ k l (λ j h. ne_eqb _ _ (n j h)) (eq-eqb _ _ y))

  pub listed-is : (o : Option ℕ) → IsPlace r g o → is_some o ≡ listed_in r g
  unfolding entry_in
  listed-is None n = rw (first_none (λ k. eqb (get_or r (2 + k) 0) g) (count_in r) (λ j h. ne_eqb _ _ (n j h))) (sym (le-ltb (count_in r) (count_in r) (omega arith)))
  listed-is (Some k) h = rw (← (place-is k h)) (sym (lt-ltb k (count_in r) h.0))

module _ (r : List ℕ) (g : ℕ) {b : Bool} (e : b ≡ ill_formed g) where
  pub add_17 : b ≡ true → noted 17 r ≡ row_obeys r (Add g)
  unfolding answer_to rewritten row_after
  add_17 y = rw (← e, y)

  pub delete_17 : b ≡ true → noted 17 r ≡ row_obeys r (Delete g)
  unfolding answer_to rewritten row_after
  delete_17 y = rw (← e, y)

  module _ (no-17 : b ≡ false) where
    -- add: it is there, there is room, there is none
    pub add_there : listed_in r g ≡ true → noted 0 r ≡ row_obeys r (Add g)
    unfolding answer_to rewritten row_after
    add_there h = simp (← e, no-17, h)

    module _ {n : ℕ} (count : n ≡ count_in r) where
      pub add-new : listed_in r g ≡ false → n < 32 → noted 0 (edited r n g (n + 1)) ≡ row_obeys r (Add g)
      unfolding answer_to rewritten row_after
      add-new h l = rw count (simp (← e, no-17, h, lt-leb 32 (count_in r) (omega arith)))

      pub add_16 : listed_in r g ≡ false → 32 ≤ n → noted 16 r ≡ row_obeys r (Add g)
      unfolding answer_to rewritten row_after
      add_16 h l = simp (← e, no-17, h, le-leb 32 (count_in r) (omega arith))

      -- delete: it is there
      pub delete_there : {k : ℕ} → IsPlace r g (Some k) → noted 0 (edited r k (get_or r (1 + n) 0) (n - 1)) ≡ row_obeys r (Delete g)
      unfolding answer_to rewritten row_after
      delete_there {k} h = let l = sym (listed-is r g (Some k) h) in let q = place-is r g k h in rw (count, q) (simp (← e, no-17, l))

    -- it is not
    pub delete_18 : IsPlace r g None → noted 18 r ≡ row_obeys r (Delete g)
    unfolding answer_to rewritten row_after
    delete_18 h = let l = sym (listed-is r g None h) in simp (← e, no-17, l)

-- renew: no mode, a mode
module _ (r : List ℕ) (m : ℕ) where
  pub renew_19 : 1 < m → noted 19 r ≡ row_obeys r (Renew m)
  unfolding answer_to rewritten row_after
  renew_19 h = rw (lt-ltb 1 m h)

  pub renew_done : m ≤ 1 → noted 0 (set (set r 0 m) 1 0) ≡ row_obeys r (Renew m)
  unfolding answer_to rewritten row_after
  renew_done h = rw (le-ltb 1 m h)

-- words that are a row, lent as one
pub whole_row : (w : List ℕ) (c : Command) {n : ℕ} {r y : List ℕ} → r ≡ take 34 w → noted n y ≡ row_obeys r c → length w ≡ 34 → noted n (y ++ drop 34 w) ≡ row_obeys w c
whole_row w c {n} {r} {y} e o l =
    let rest : drop 34 w ≡ [] = drop_of_length-le w {i = 34} (omega arith) in
    rw (rest, append-nil y) (subst (λ (q : List ℕ). noted n y ≡ row_obeys q c) (e ∙ take_all 34 w (omega arith)) o)

-- the rows of the words, one behind another
chunk_row : (k : ℕ) (w : List ℕ) (i : ℕ) (d : List ℕ) → i < k → get_or (first_chunks 34 k w) i d ≡ row_at 34 w i
unfolding row_at
chunk_row zero w i d h = absurd (not-suc-le-zero h)
chunk_row (suc k) w zero d h = refl
chunk_row (suc k) w (suc i) d h =
    let n : 34 + i * 34 ≡ suc i * 34 = omega arith in
    chunk_row k (drop 34 w) i d (le_of_suc-le-suc h) ∙ rw (drop-drop (i * 34) 34 w, n)

-- row i is lent as a part, and comes back
module _ (w : List ℕ) (i : ℕ) where
  abbrev part : List ℕ
  part = take (i * 34 + 34 - i * 34) (drop (i * 34) w)

  pub lent_back : (c : Command) {n : ℕ} {r : List ℕ} → i < length w / 34 → (length part ≡ 34 → noted n r ≡ row_obeys part c)
      → noted n (take (i * 34) w ++ (r ++ drop (i * 34 + 34 - i * 34) (drop (i * 34) w))) ≡ obeys_at w i c
  lent_back c {n} {r} h f =
      let long : length part ≡ 34 = simp (length-take, length-drop) (omega arith) in
      let o = f long in
      rw (back_is-put 34 w i r, lt-ltb i (length w / 34) h)
      (ap (λ (a : Noted). noted a.number (put_at 34 w i a.row)) (rw (part_is-row 34 w i) at o))

  pub passes-by : (g : ℕ) (rows : List (List ℕ)) {row : List ℕ} {m : ℕ} {b l : Bool} → rows ≡ first_chunks 34 (length w / 34) w → length rows ≡ length w / 34
      → i < length rows → row ≡ get_or rows i row → m ≡ mode_in row → l ≡ listed_in row g → b ≡ passes m l → b ≡ passes_at w i g
  passes-by g rows {row} {m} {b} {l} f e h r mode listed p =
      let is : row ≡ row_at 34 w i = r ∙ ap (λ (x : List (List ℕ)). get_or x i row) f ∙ chunk_row (length w / 34) w i row (omega arith) in
      let lt : i < length w / 34 = omega arith in
      rw (lt-ltb i (length w / 34) lt, ← is, ← mode, ← listed) p
