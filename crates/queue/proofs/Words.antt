-- The words of one port: the frames that they hold, and what entering and leaving make of these. Assumes nothing.
use mathlib.Core.Path.{◌≡◌, sym, ap, ap₂, ◌∙◌}
use mathlib.Core.Bool.{true, false, cond}
use mathlib.Core.Option.{none, some}
use mathlib.Core.List.{List, [], ◌∷◌, ◌++◌}
use Prim.Native.Nat.{ℕ, zero, suc, ◌+◌, ◌-◌, ◌≤◌, ◌<◌, min}
use native.Mathlib.Numerals.{add-one}
use native.Mathlib.Omega.{arith}
use native.Mathlib.Decide.{ℕ_discrete}
use borrow.Author.Tests.{lt-ltb, le-ltb, ltb-true, ltb-false, eq-eqb, ne_eqb}
use lib.Dec.{ltb}
use lib.ListN.{length, get_or, set, take, drop, length-append, length-drop, length-set}
use lib.Seq.{take-nil, take_at, take-take, get_or-take, get_or-drop, get_or-set_same, take-suc-set, drop-set-lt, drop-set-add, paste, length-paste, length-take-le}
use Rattle.words.proofs.Tests.{test, never}
use Rattle.queue.specs.Queue.{place, leaver, stayers}
use Rattle.queue.specs.Row.{priority_in, count_in, waiting_in, entered, row_enters, closed_up, gone, row_leaves}
use Rattle.queue.proofs.Leaving.{none_leaves, none_stays, place-below, leaver-at, stayers-at}

-- ---- a frame's word

pub number_few : (w : ℕ) → priority_in w < 8
number_few w = omega arith

-- ---- the count and the frames

pub count_most : (r : List ℕ) → count_in r ≤ 64
unfolding count_in
count_most r = test (ltb 64 (get_or r 0 0)) (λ e. rw e (omega arith)) (λ e. rw e (ltb-false 64 (get_or r 0 0) e))

-- as the code takes it
pub count-min : (r : List ℕ) → min 64 (get_or r 0 0) ≡ count_in r
unfolding count_in
count-min r =
    test (ltb 64 (get_or r 0 0)) (λ e. rw e (omega (arith, ltb-true 64 (get_or r 0 0) e))) (λ e. rw e (omega (arith, ltb-false 64 (get_or r 0 0) e)))

pub count-is : (r : List ℕ) (n : ℕ) → get_or r 0 0 ≡ n → n ≤ 64 → count_in r ≡ n
unfolding count_in
count-is r n e h = rw (e, le-ltb 64 n h)

-- the part that is lent
pub part_waits : (r : List ℕ) (n : ℕ) → n ≡ count_in r → take (1 + n - 1) (drop 1 r) ≡ waiting_in r
unfolding waiting_in
part_waits r n e = let f : 1 + n - 1 ≡ count_in r = omega (arith, e) in rw f

pub none_waits : (r : List ℕ) → count_in r ≡ 0 → waiting_in r ≡ []
unfolding waiting_in
none_waits r e = rw e

module _ (r : List ℕ) (long : length r ≡ 65) where
  pub waiting-long : length (waiting_in r) ≡ count_in r
  unfolding waiting_in
  waiting-long = length-take-le (count_in r) (drop 1 r) (omega (arith, count_most r, length-drop 1 r))

  pub waiting_get : (k : ℕ) → k < count_in r → get_or (waiting_in r) k 0 ≡ get_or r (1 + k) 0
  unfolding waiting_in
  waiting_get k h = get_or-take (count_in r) (drop 1 r) k 0 h ∙ get_or-drop 1 r k 0

  -- ---- entering

  pub enters : (w n : ℕ) → n ≡ count_in r → n < 64 → entered true (set (set r (1 + n) w) 0 (n + 1)) ≡ row_enters r w
  unfolding row_enters
  enters w n e h = rw (← e, lt-ltb n 64 h)

  pub turned : (w n : ℕ) → n ≡ count_in r → 64 ≤ n → entered false r ≡ row_enters r w
  unfolding row_enters
  turned w n e h = rw (← e, le-ltb n 64 h)

  -- it waits behind the others
  pub waits-behind : (w : ℕ) → count_in r < 64 → waiting_in (set (set r (1 + count_in r) w) 0 (count_in r + 1)) ≡ waiting_in r ++ (w ∷ [])
  unfolding waiting_in
  waits-behind w h =
      let n = count_in r in
      let count : count_in (set (set r (1 + n) w) 0 (n + 1)) ≡ suc n =
      count-is (set (set r (1 + n) w) 0 (n + 1)) (suc n) (get_or-set_same (set r (1 + n) w) 0 (n + 1) 0 (omega (arith, length-set r (1 + n) w)) ∙ add-one n) (omega arith) in
      rw (count, drop-set-lt 1 (set r (1 + n) w) 0 (n + 1) (omega arith), drop-set-add 1 r n w)
      (take-suc-set (drop 1 r) n w (omega (arith, length-drop 1 r)))

-- a row that is full stays as it is
pub full_stays : (r : List ℕ) (w : ℕ) → (row_enters r w).fits ≡ false → (row_enters r w).words ≡ r
unfolding row_enters
full_stays r w n = test (ltb (count_in r) 64) (λ y. never (rw y) n) (λ y. rw y)

-- ---- leaving

-- a part of the front of a list, from place a on
drop-take : (a n : ℕ) (t : List ℕ) → drop a (take n t) ≡ take (n - a) (drop a t)
drop-take zero n t = let e : n ≡ n - zero = omega arith in ap (λ (k : ℕ). take k t) e
drop-take (suc a) zero t = let e : zero ≡ zero - suc a = omega arith in ap (λ (k : ℕ). take k (drop (suc a) t)) e
drop-take (suc a) (suc n) [] = sym (take-nil (suc n - suc a))
drop-take (suc a) (suc n) (x ∷ t) = let e : n - a ≡ suc n - suc a = omega arith in drop-take a n t ∙ ap (λ (k : ℕ). take k (drop a t)) e

-- the words behind place k move up by one
pub all_moved : (r : List ℕ) (k n : ℕ) (after : List ℕ) → n ≡ count_in r → after ≡ paste r (k + 1) (drop (k + 2) r) (n + 1 - (k + 2)) → set after 0 (n - 1) ≡ closed_up r k
unfolding closed_up
all_moved r k n after e p = let f : n + 1 - (k + 2) ≡ count_in r - (k + 1) = omega (arith, e) in rw (p, f, e)

-- the frames of a row that has closed up
closed_tail : (c : ℕ) (t : List ℕ) (k m a b : ℕ) → a ≡ suc k → b ≡ suc (suc k) → suc k + m ≤ length t
    → take (k + m) (drop 1 (paste (c ∷ t) a (drop b (c ∷ t)) m)) ≡ take k t ++ take m (drop (suc k) t)
closed_tail c t k m a b e f h =
    rw (e, f)
    (take_at (take k t ++ take m (drop (suc k) t)) (drop (suc k + m) (c ∷ t)) (k + m)
    (length-append (take k t) (take m (drop (suc k) t)) ∙ ap₂ ◌+◌ (length-take-le k t (omega arith)) (length-take-le m (drop (suc k) t) (omega (arith, length-drop (suc k) t)))))

closed_front : (k : ℕ) (r : List ℕ) → length r ≡ 65 → k < count_in r
    → take (count_in r - 1) (drop 1 (closed_up r k)) ≡ take k (take (count_in r) (drop 1 r)) ++ drop (suc k) (take (count_in r) (drop 1 r))
unfolding closed_up
closed_front k [] e l = absurd (omega (arith, e))
closed_front k (c ∷ t) e l =
    let n = count_in (c ∷ t) in
    let m = n - (k + 1) in
    let s : n - 1 ≡ k + m = omega (arith, l) in
    let u : n - suc k ≡ m = omega arith in
    rw (drop-set-lt 1 (paste (c ∷ t) (k + 1) (drop (k + 2) (c ∷ t)) m) 0 (n - 1) (omega arith), s)
    (closed_tail c t k m (k + 1) (k + 2) (omega arith) (omega arith) (omega (arith, l, count_most (c ∷ t), e))
    ∙ ap₂ (λ (x : List ℕ) (y : List ℕ). x ++ y) (sym (take-take k n t (omega (arith, l)))) (ap (λ (i : ℕ). take i (drop (suc k) t)) (sym u) ∙ sym (drop-take (suc k) n t)))

module _ (r : List ℕ) (long : length r ≡ 65) (k : ℕ) (h : k < count_in r) where
  pasted_long : length (paste r (k + 1) (drop (k + 2) r) (count_in r - (k + 1))) ≡ length r
  pasted_long = length-paste r (k + 1) (drop (k + 2) r) (count_in r - (k + 1)) (omega (arith, count_most r)) (omega (arith, count_most r, length-drop (k + 2) r))

  pub closed_long : length (closed_up r k) ≡ 65
  unfolding closed_up
  closed_long = length-set (paste r (k + 1) (drop (k + 2) r) (count_in r - (k + 1))) 0 (count_in r - 1) ∙ pasted_long ∙ long

  closed_count : count_in (closed_up r k) ≡ count_in r - 1
  unfolding closed_up
  closed_count =
      let n = count_in r in
      let p = paste r (k + 1) (drop (k + 2) r) (n - (k + 1)) in
      count-is (set p 0 (n - 1)) (n - 1) (get_or-set_same p 0 (n - 1) 0 (omega (arith, pasted_long))) (omega (arith, count_most r))

  pub closed_waits : waiting_in (closed_up r k) ≡ take k (waiting_in r) ++ drop (suc k) (waiting_in r)
  unfolding waiting_in
  closed_waits = rw closed_count (closed_front k r long h)

-- ---- who leaves

module _ (r : List ℕ) (long : length r ≡ 65) where
  abbrev pub at : ℕ
  at = place priority_in (waiting_in r)

  pub at-below : 0 < count_in r → at < count_in r
  at-below h = rw (waiting-long r long) at (place-below priority_in number_few (waiting_in r) (rw (waiting-long r long) h))

  pub nobody : count_in r ≡ 0 → gone false 0 r ≡ row_leaves r
  unfolding row_leaves
  nobody z = rw (eq-eqb (count_in r) 0 z)

  pub somebody : (k : ℕ) (after : List ℕ) → k < count_in r → k ≡ at → after ≡ closed_up r k → gone true (get_or r (1 + k) 0) after ≡ row_leaves r
  unfolding row_leaves
  somebody k after b f g =
      let ne : count_in r ≡ 0 → ⊥ = λ z. omega (arith, b, z) in
      rw (g, f, ne_eqb (count_in r) 0 ne)

  -- a row is as long afterwards, whoever enters or leaves
  pub enters_long : (w : ℕ) → length (row_enters r w).words ≡ 65
  unfolding row_enters
  enters_long w = test (ltb (count_in r) 64) (λ y. rw y (simp length-set long)) (λ n. rw n long)

  pub enters_waits : (w : ℕ) → waiting_in (row_enters r w).words ≡ cond (ltb (length (waiting_in r)) 64) (waiting_in r ++ (w ∷ [])) (waiting_in r)
  unfolding row_enters
  enters_waits w =
      rw (waiting-long r long) (test (ltb (count_in r) 64) (λ y. rw y (waits-behind r long w (ltb-true (count_in r) 64 y))) (λ n. rw n))

  pub enters_fits : (w : ℕ) → (row_enters r w).fits ≡ ltb (length (waiting_in r)) 64
  unfolding row_enters
  enters_fits w = rw (waiting-long r long) (test (ltb (count_in r) 64) (λ y. rw y) (λ n. rw n))

  pub leaves_long : length (row_leaves r).words ≡ 65
  unfolding row_leaves
  leaves_long =
      elim (ℕ_discrete (count_in r) 0) [
        | yes e ↦ rw (eq-eqb (count_in r) 0 e) long
        | no ne ↦ rw (ne_eqb (count_in r) 0 ne) (closed_long r long at (at-below (omega arith)))
      ]

  pub leaves_waits : waiting_in (row_leaves r).words ≡ stayers priority_in (waiting_in r)
  unfolding row_leaves
  leaves_waits =
      elim (ℕ_discrete (count_in r) 0) [
        | yes e ↦ rw (eq-eqb (count_in r) 0 e, none_waits r e, none_stays)
        | no ne ↦ rw (ne_eqb (count_in r) 0 ne)
            (closed_waits r long at (at-below (omega arith)) ∙ sym (stayers-at priority_in number_few (waiting_in r) (omega (arith, waiting-long r long))))
      ]

  pub leaves_who : leaver priority_in (waiting_in r) ≡ cond (row_leaves r).any (some (row_leaves r).word) none
  unfolding row_leaves
  leaves_who =
      elim (ℕ_discrete (count_in r) 0) [
        | yes e ↦ rw (eq-eqb (count_in r) 0 e, none_waits r e, none_leaves)
        | no ne ↦ rw (ne_eqb (count_in r) 0 ne)
            (leaver-at priority_in number_few (waiting_in r) 0 (omega (arith, waiting-long r long)) ∙ ap some (waiting_get r long at (at-below (omega arith))))
      ]
