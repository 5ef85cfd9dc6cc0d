-- Rising lists of numbers: putting a number in, taking one out and merging keep them rising, and say which numbers stand there; and two rising lists of
-- the same numbers are one. Assumes nothing.
use mathlib.Core.Path.{◌≡◌, refl, sym, ap₂, ◌∙◌}
use mathlib.Core.Bool.{true, false, not, ◌&&◌, ◌||◌, or-true, and-false, and-eq-true_iff}
use mathlib.Core.List.{List, [], ◌∷◌}
use Prim.Native.Nat.{ℕ, ◌<◌}
use native.Mathlib.Omega.{arith}
use borrow.Author.Tests.{ltb-true, ltb-false, eqb-true, eqb-false, lt-ltb, eq-eqb, ne_eqb}
use lib.Dec.{eqb, ltb}
use Rattle.words.specs.Rising.{has, starts_above, rising, insert, remove, merge}
use Rattle.words.proofs.Tests.{test, never}

-- ---- a rising list, taken apart

pub rising_rest : (x : ℕ) (l : List ℕ) → rising (x ∷ l) ≡ true → rising l ≡ true
unfolding rising
rising_rest x l u = ((and-eq-true_iff (starts_above x l) _).0 u).1

-- every number of it is above the first
pub rising_above : (x : ℕ) (l : List ℕ) → rising (x ∷ l) ≡ true → (i : ℕ) → has i l ≡ true → x < i
unfolding rising has
rising_above x [] u i e = never e refl
rising_above x (y ∷ l) u i e = go (rising_above y l)
  where
    parts : (ltb x y ≡ true) × ((starts_above y l && rising l) ≡ true)
    parts = (and-eq-true_iff (ltb x y) _).0 u

    go : ((starts_above y l && rising l) ≡ true → (j : ℕ) → has j l ≡ true → y < j) → x < i
    go ih =
        test (eqb y i) (λ s. omega (arith, ltb-true x y parts.0, eqb-true y i s))
        (λ n. omega (arith, ltb-true x y parts.0, ih parts.1 i (rw n at e)))

-- so the first is none of the others
pub rising-once : (x : ℕ) (l : List ℕ) → rising (x ∷ l) ≡ true → has x l ≡ false
rising-once x l u = test (has x l) (λ e. let h = rising_above x l u x e in absurd (omega arith)) (λ f. f)

-- ---- a list that starts above x still does

insert-starts : (x y : ℕ) (l : List ℕ) → x < y → starts_above x l ≡ true → starts_above x (insert y l) ≡ true
unfolding insert
insert-starts x y [] h a = lt-ltb x y h
insert-starts x y (z ∷ l) h a = test (ltb y z) (λ e. rw e (lt-ltb x y h)) (λ e. rw e (test (eqb y z) (λ f. rw f a) (λ f. rw f a)))

pub starts_lower : (x y : ℕ) (l : List ℕ) → x < y → starts_above y l ≡ true → starts_above x l ≡ true
starts_lower x y [] h a = refl
starts_lower x y (z ∷ l) h a = lt-ltb x z (omega (arith, ltb-true y z a))

remove-starts : (x y : ℕ) (l : List ℕ) → rising l ≡ true → starts_above x l ≡ true → starts_above x (remove y l) ≡ true
unfolding rising remove
remove-starts x y [] u a = refl
remove-starts x y (z ∷ l) u a =
    let (s, v) = (and-eq-true_iff (starts_above z l) _).0 u in
    let ih = remove-starts x y l v (starts_lower x z l (ltb-true x z a) s) in
    test (eqb y z) (λ e. rw e ih) (λ e. rw e a)

-- ---- what keeps a list rising

pub insert-rising : (x : ℕ) (l : List ℕ) → rising l ≡ true → rising (insert x l) ≡ true
unfolding rising insert
insert-rising x [] u = refl
insert-rising x (y ∷ l) u =
    let (s, v) = (and-eq-true_iff (starts_above y l) _).0 u in
    let ih = insert-rising x l v in
    test (ltb x y) (λ e. rw (e, e) u)
    (λ e. rw e (test (eqb x y) (λ f. rw f u)
    (λ f. rw f ((and-eq-true_iff (starts_above y (insert x l)) _).1 (insert-starts y x l (omega (arith, ltb-false x y e, eqb-false x y f)) s, ih)))))

pub remove-rising : (x : ℕ) (l : List ℕ) → rising l ≡ true → rising (remove x l) ≡ true
unfolding rising remove
remove-rising x [] u = refl
remove-rising x (y ∷ l) u =
    let (s, v) = (and-eq-true_iff (starts_above y l) _).0 u in
    let ih = remove-rising x l v in
    test (eqb x y) (λ e. rw e ih) (λ e. rw e ((and-eq-true_iff (starts_above y (remove x l)) _).1 (remove-starts y x l v s, ih)))

-- the first list may be any: merging it into [] sorts it
pub merge-rising : (l m : List ℕ) → rising m ≡ true → rising (merge l m) ≡ true
unfolding merge
merge-rising [] m u = u
merge-rising (x ∷ l) m u = insert-rising x (merge l m) (merge-rising l m u)

-- ---- which numbers stand there

pub insert-has : (i x : ℕ) (l : List ℕ) → has i (insert x l) ≡ (eqb x i || has i l)
unfolding has insert
insert-has i x [] = refl
insert-has i x (y ∷ l) =
    test (ltb x y) (λ e. rw e)
    (λ e. rw e (test (eqb x y) (λ f. rw (f, eqb-true x y f) (test (eqb y i) (λ s. rw s) (λ n. rw n)))
    (λ f. rw (f, insert-has i x l) (test (eqb y i) (λ s. rw (s, or-true (eqb x i))) (λ n. rw n)))))

pub remove-has : (i x : ℕ) (l : List ℕ) → has i (remove x l) ≡ (not (eqb x i) && has i l)
unfolding has remove
remove-has i x [] = sym (and-false (not (eqb x i)))
remove-has i x (y ∷ l) =
    test (eqb x y)
    (λ e. rw (e, remove-has i x l, ← (eqb-true x y e)) (test (eqb x i) (λ s. rw s) (λ n. rw n)))
    (λ e. rw (e, remove-has i x l)
    (test (eqb x i) (λ s. rw (s, ne_eqb y i (λ q. eqb-false x y e (eqb-true x i s ∙ sym q)))) (λ n. rw n)))

pub merge-has : (i : ℕ) (l m : List ℕ) → has i (merge l m) ≡ (has i l || has i m)
unfolding has merge
merge-has i [] m = refl
merge-has i (x ∷ l) m = insert-has i x (merge l m) ∙ rw (merge-has i l m) (test (eqb x i) (λ s. rw s) (λ n. rw n))

-- ---- one list

pub one_list : (a b : List ℕ) → rising a ≡ true → rising b ≡ true → ((i : ℕ) → has i a ≡ has i b) → a ≡ b
unfolding has
one_list [] [] u v same = refl
one_list [] (y ∷ b) u v same = never (rw (eq-eqb y y refl)) (sym (same y))
one_list (x ∷ a) [] u v same = never (rw (eq-eqb x x refl)) (same x)
one_list (x ∷ a) (y ∷ b) u v same = ap₂ (λ (z : ℕ) (l : List ℕ). z ∷ l) first (one_list a b (rising_rest x a u) (rising_rest y b v) rest)
  where
    first : x ≡ y
    first =
        test (eqb x y) (eqb-true x y)
        (λ n.
        let p : (eqb x y || has y a) ≡ true = rw (same y, eq-eqb y y refl) in
        let q : (eqb y x || has x b) ≡ true = rw (← (same x), eq-eqb x x refl) in
        let h = rising_above x a u y (rw n at p) in
        let k = rising_above y b v x (rw (ne_eqb y x (λ e. eqb-false x y n (sym e))) at q) in
        absurd (omega arith))

    rest : (i : ℕ) → has i a ≡ has i b
    rest i =
        test (eqb x i)
        (λ s. rw (← (eqb-true x i s)) (rising-once x a u ∙ sym (rw first (rising-once y b v))))
        (λ n. let e : (eqb x i || has i a) ≡ (eqb x i || has i b) = same i ∙ rw (sym first) in rw n at e)
