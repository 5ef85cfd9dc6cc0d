-- Who leaves a queue, of anything that has a priority number below 8 (specs/Queue.antt): the one at its place, of the lowest number, and none of that number is before it.
-- Assumes nothing.
use mathlib.Core.Path.{◌≡◌, refl, sym, ap, ap₂, ◌∙◌}
use mathlib.Core.Bool.{Bool, true, false}
use mathlib.Core.Option
use mathlib.Core.Option.{Option, none, some, some-ne-none, some-injective}
use mathlib.Core.List.{List, [], ◌∷◌, ◌++◌, map}
use Prim.Native.Nat.{ℕ, zero, suc, ◌≤◌, ◌<◌, min}
use native.Mathlib.Nat.{not-suc-le-zero, le_of_suc-le-suc}
use native.Mathlib.Omega.{arith}
use borrow.Author.Tests.{leb-true, leb-false, eqb-true, ne_eqb}
use lib.Dec.{eqb, leb}
use lib.ListN.{length, get_or, take, drop}
use Rattle.words.specs.Runs.{only}
use Rattle.words.proofs.Tests.{test}
use Rattle.queue.specs.Queue.{least, place, leaver, stayers}

module _ {A : Type 0} (priority : A → ℕ) where
  -- ---- an empty queue

  pub none_leaves : leaver priority [] ≡ none
  unfolding leaver
  none_leaves = refl

  pub none_stays : stayers priority [] ≡ []
  unfolding stayers
  none_stays = refl

  -- ---- the lowest number

  pub least-most : (l : List A) → least priority l ≤ 8
  unfolding least
  least-most [] = omega arith
  least-most (x ∷ l) = omega (arith, least-most l)

  -- no number in the list is below it
  pub least-below : (l : List A) (k : ℕ) (d : A) → k < length l → least priority l ≤ priority (get_or l k d)
  unfolding least
  least-below [] k d h = absurd (not-suc-le-zero h)
  least-below (x ∷ l) zero d h = omega arith
  least-below (x ∷ l) (suc k) d h = omega (arith, least-below l k d (le_of_suc-le-suc h))

  least_some : (l : List A) → least priority l < 8 → 0 < length l
  unfolding least
  least_some [] h = absurd (omega (arith, h))
  least_some (x ∷ l) h = omega arith

  -- ---- one more in front

  -- it leaves, where its number is not above any behind it
  front_leaves : (x : A) (l : List A) → leb (priority x) (least priority l) ≡ true → (leaver priority (x ∷ l) ≡ some x) × (stayers priority (x ∷ l) ≡ l)
  unfolding leaver stayers
  front_leaves x l y = (rw y, rw y)

  -- else one behind it does
  front_stays : (x : A) (l : List A) → leb (priority x) (least priority l) ≡ false → (leaver priority (x ∷ l) ≡ leaver priority l) × (stayers priority (x ∷ l) ≡ x ∷ stayers priority l)
  unfolding leaver stayers
  front_stays x l n = (rw n, rw n)

  front_place : (x : A) (l : List A) → leb (priority x) (least priority l) ≡ true → place priority (x ∷ l) ≡ 0
  unfolding place
  front_place x l y = rw y

  next_place : (x : A) (l : List A) → leb (priority x) (least priority l) ≡ false → place priority (x ∷ l) ≡ suc (place priority l)
  unfolding place
  next_place x l n = rw n

-- ---- where every number is below 8

module _ {A : Type 0} (priority : A → ℕ) (few : (x : A) → priority x < 8) where
  -- behind one that stays stands another
  more-behind : (x : A) (l : List A) → leb (priority x) (least priority l) ≡ false → 0 < length l
  more-behind x l n = least_some priority l (omega (arith, leb-false (priority x) (least priority l) n, few x))

  pub place-below : (l : List A) → 0 < length l → place priority l < length l
  place-below [] h = absurd (not-suc-le-zero h)
  place-below (x ∷ l) h =
      test (leb (priority x) (least priority l)) (λ y. rw (front_place priority x l y) (omega arith))
      (λ n. rw (next_place priority x l n) (omega (arith, place-below l (more-behind x l n))))

  -- who leaves stands at the place, and the others are what is before and behind it
  pub leaver-at : (l : List A) (d : A) → 0 < length l → leaver priority l ≡ some (get_or l (place priority l) d)
  leaver-at [] d h = absurd (not-suc-le-zero h)
  leaver-at (x ∷ l) d h =
      test (leb (priority x) (least priority l)) (λ y. rw (front_place priority x l y) (front_leaves priority x l y).0)
      (λ n. rw (next_place priority x l n) ((front_stays priority x l n).0 ∙ leaver-at l d (more-behind x l n)))

  pub stayers-at : (l : List A) → 0 < length l → stayers priority l ≡ take (place priority l) l ++ drop (suc (place priority l)) l
  stayers-at [] h = absurd (not-suc-le-zero h)
  stayers-at (x ∷ l) h =
      test (leb (priority x) (least priority l)) (λ y. rw (front_place priority x l y) (front_leaves priority x l y).1)
      (λ n. rw (next_place priority x l n) ((front_stays priority x l n).1 ∙ ap (λ (m : List A). x ∷ m) (stayers-at l (more-behind x l n))))

  -- one leaves unless none waits
  pub leaves_some : (x : A) (l : List A) → leaver priority (x ∷ l) ≡ none → ⊥
  leaves_some x l e = some-ne-none _ (sym (leaver-at (x ∷ l) x (omega arith)) ∙ e)

  -- ---- "frames of higher priority leave first": no number in the queue is below that of the one that leaves

  pub leaver-least : (l : List A) (x : A) → leaver priority l ≡ some x → priority x ≡ least priority l
  unfolding least leaver
  leaver-least [] x e = absurd (some-ne-none x (sym e))
  leaver-least (y ∷ l) x e =
      test (leb (priority y) (least priority l))
      (λ t. ap priority (sym (some-injective y x (sym (front_leaves priority y l t).0 ∙ e))) ∙ omega (arith, leb-true (priority y) (least priority l) t))
      (λ n. leaver-least l x (sym (front_stays priority y l n).0 ∙ e) ∙ omega (arith, leb-false (priority y) (least priority l) n))

  -- ---- "equal ones in order of arrival": of each number, the queue is who leaves, if he has it, and those that stay

  -- those of one number
  abbrev pub of_number : ℕ → List A → List A
  of_number n l = only (λ x. eqb (priority x) n) l

  pub in_turn : (n : ℕ) (l : List A) (x : A) → leaver priority l ≡ some x → of_number n l ≡ of_number n (x ∷ stayers priority l)
  unfolding leaver
  in_turn n [] x e = absurd (some-ne-none x (sym e))
  in_turn n (y ∷ l) x e =
      test (leb (priority y) (least priority l))
      (λ t. let (p, q) = front_leaves priority y l t in ap₂ (λ (z : A) (m : List A). of_number n (z ∷ m)) (some-injective y x (sym p ∙ e)) (sym q))
      (λ t.
      let (p, q) = front_stays priority y l t in
      let o : leaver priority l ≡ some x = sym p ∙ e in
      let low : priority x ≡ least priority l = leaver-least l x o in
      test (eqb (priority y) n)
      (λ u.
      let apart : priority x ≡ n → ⊥ = λ v. omega (arith, leb-false (priority y) (least priority l) t, eqb-true (priority y) n u, low, v) in
      rw (q, u, ne_eqb (priority x) n apart) (ap (λ (m : List A). y ∷ m) (rw (ne_eqb (priority x) n apart) at (in_turn n l x o))))
      (λ u. rw (q, u) (in_turn n l x o)))

  -- nobody is lost: as many pass a test as of who leaves and those that stay
  pub as_many : (p : A → Bool) (l : List A) (x : A) → leaver priority l ≡ some x → length (only p l) ≡ length (only p (x ∷ stayers priority l))
  unfolding leaver
  as_many p [] x e = absurd (some-ne-none x (sym e))
  as_many p (y ∷ l) x e =
      test (leb (priority y) (least priority l))
      (λ t. let (u, q) = front_leaves priority y l t in ap₂ (λ (z : A) (m : List A). length (only p (z ∷ m))) (some-injective y x (sym u ∙ e)) (sym q))
      (λ t.
      let (u, q) = front_stays priority y l t in
      let ih = as_many p l x (sym u ∙ e) in
      rw q
      (test (p y) (λ a. test (p x) (λ b. rw (a, b) (ap suc (rw b at ih))) (λ b. rw (a, b) (ap suc (rw b at ih)))) (λ a. test (p x) (λ b. rw (a, b) (rw b at ih)) (λ b. rw (a, b) (rw b at ih)))))

-- ---- the same of a list that another stands for

module _ {A B : Type 0} (f : A → B) (pa : A → ℕ) (pb : B → ℕ) (same : (x : A) → pb (f x) ≡ pa x) where
  least-map : (l : List A) → least pb (map f l) ≡ least pa l
  unfolding least
  least-map [] = refl
  least-map (x ∷ l) = ap₂ min (same x) (least-map l)

  pub leaver-map : (l : List A) → leaver pb (map f l) ≡ Option.map f (leaver pa l)
  unfolding leaver
  leaver-map [] = refl
  leaver-map (x ∷ l) = rw (same x, least-map l) (test (leb (pa x) (least pa l)) (λ y. rw y) (λ n. rw n (leaver-map l)))

  pub stayers-map : (l : List A) → stayers pb (map f l) ≡ map f (stayers pa l)
  unfolding stayers
  stayers-map [] = refl
  stayers-map (x ∷ l) = rw (same x, least-map l) (test (leb (pa x) (least pa l)) (λ y. rw y) (λ n. rw n (ap (λ (m : List B). f x ∷ m) (stayers-map l))))
