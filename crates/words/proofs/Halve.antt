-- The laws of halving (specs/Halve.antt): what it finds is what `first` finds, and how many turns it takes. Assumes nothing.
use mathlib.Core.Path.{◌≡◌, refl}
use mathlib.Core.Bool.{Bool, true, false, cond}
use Prim.Native.Nat.{ℕ, zero, suc, ◌+◌, ◌-◌, ◌/◌, ◌^◌, ◌≤◌, ◌<◌}
use native.Mathlib.Nat.{pow-suc, not-suc-le-zero}
use native.Mathlib.Decide.{dec_lt}
use native.Mathlib.Omega.{arith}
use borrow.Author.Tests.{le-leb, lt-leb, leb-true, leb-false, eqb-true, eq-eqb}
use lib.Dec.{eqb, leb}
use Rattle.words.specs.First.{first}
use Rattle.words.specs.Halve.{turns, narrowed, halved}
use Rattle.words.proofs.First.{first-at, first_none, first_holds, first_below}
use Rattle.words.proofs.Tests.{test, never}

-- ---- the turns

-- n places that are at most 2^k take at most k turns: the bits of the last place's number
pub turns-most : (n k : ℕ) → n ≤ 2 ^ k → turns n ≤ k
unfolding turns
turns-most n k l =
    elim (dec_lt k (first (λ j. leb n (2 ^ j)) n)) [
      | yes h ↦ never (le-leb n (2 ^ k) l) (first_below (λ j. leb n (2 ^ j)) n k h)
      | no h ↦ omega arith
    ]

-- a number's power of two is above it
above : (k : ℕ) → suc k ≤ 2 ^ k
above zero = omega arith
above (suc k) = omega (arith, pow-suc 2 k, above k)

turns-below : (n : ℕ) → 0 < n → turns n < n
turns-below zero h = absurd (not-suc-le-zero h)
turns-below (suc k) h = omega (arith, turns-most (suc k) k (above k))

-- so many turns are enough
turns_enough : (n : ℕ) → 0 < n → n ≤ 2 ^ turns n
unfolding turns
turns_enough n h = leb-true n (2 ^ first (λ j. leb n (2 ^ j)) n) (first_holds (λ j. leb n (2 ^ j)) n (turns-below n h))

-- a turn leaves half of the places, rounded up, and one turn less
pub turns-halved : (n : ℕ) → 1 < n → turns n ≡ suc (turns (n - n / 2))
unfolding turns
turns-halved n h =
    first-at (λ j. leb n (2 ^ j)) n (suc k) (omega (arith, turns-below m (omega arith))) before
    (le-leb n (2 ^ suc k) (omega (arith, pow-suc 2 k, turns_enough m (omega arith))))
  where
    m : ℕ
    m = n - n / 2

    k : ℕ
    k = turns m

    before : (j : ℕ) → j < suc k → leb n (2 ^ j) ≡ false
    before zero l = lt-leb n 1 h
    before (suc j) l = lt-leb n (2 ^ suc j) (omega (arith, pow-suc 2 j, leb-false m (2 ^ j) (first_below (λ i. leb m (2 ^ i)) m j (omega arith))))

-- one place takes none
turns-one : turns 1 ≡ 0
unfolding turns first
turns-one = refl

-- ---- what is found

-- a test that goes on holding once it holds, among the first n places
abbrev pub Rising : (ℕ → Bool) → ℕ → Type 0
Rising p n = (i j : ℕ) → i ≤ j → j < n → p i ≡ true → p j ≡ true

module _ (p : ℕ → Bool) (all : ℕ) (up : Rising p all) where
  -- the n places that end with hi are those that may be the first to hold: none below them does, and hi does or is the last of all
  record Left (hi n : ℕ) : Type 0 where
    inside : hi < all
    room : n ≤ suc hi
    below : (k : ℕ) → k + n ≤ hi → p k ≡ false
    last : p hi ≡ false → suc hi ≡ all

  turn : (hi n : ℕ) → Left hi n → Left (hi - cond (p (hi - n / 2)) (n / 2) 0) (n - n / 2)
  turn hi n l = test (p (hi - n / 2)) (λ t. rw t (down t)) (λ f. let e : hi - 0 ≡ hi = omega arith in rw (f, e) (stay f))
    where
      down : p (hi - n / 2) ≡ true → Left (hi - n / 2) (n - n / 2)
      down t = record {
        inside = omega (arith, l.inside);
        room = omega (arith, l.room);
        below = λ k h. l.below k (omega (arith, l.room));
        last = λ f. never t f;
      }

      stay : p (hi - n / 2) ≡ false → Left hi (n - n / 2)
      stay f = record {
        inside = omega (arith, l.inside);
        room = omega (arith, l.room);
        below = λ k h. test (p k) (λ t. never (up k (hi - n / 2) (omega arith) (omega (arith, l.inside)) t) f) (λ e. e);
        last = l.last;
      }

  run : (k hi n : ℕ) → n ≤ 2 ^ k → Left hi n → Left (narrowed k p hi n) 1
  unfolding narrowed
  run zero hi n few l = record { inside = l.inside; room = omega arith; below = λ k h. l.below k (omega arith); last = l.last }
  run (suc k) hi n few l = run k _ (n - n / 2) (omega (arith, pow-suc 2 k)) (turn hi n l)

  -- the place that halving comes to
  found : 0 < all → Left (halved p all) 1
  unfolding halved
  found h = run (turns all) (all - 1) all (turns_enough all h) (record {
    inside = omega arith;
    room = omega arith;
    below = λ k l. absurd (omega arith);
    last = λ e. omega arith;
  })

  -- another test that holds only where this one does, and at the first such place if anywhere from there on: one test of it more finds its first place
  pub halved_finds : (q : ℕ → Bool) → 0 < all → ((i : ℕ) → i < all → q i ≡ true → p i ≡ true)
      → ((i j : ℕ) → i ≤ j → j < all → p i ≡ true → q j ≡ true → q i ≡ true) → first q all ≡ cond (q (halved p all)) (halved p all) all
  halved_finds q h only there = let l = found h in
      test (q (halved p all))
      (λ t. rw t (first-at q all (halved p all) l.inside (λ k b. test (q k) (λ y. never (only k (omega (arith, l.inside)) y) (l.below k (omega arith))) (λ e. e)) t))
      (λ f. rw f (first_none q all (λ k b. test (q k) (λ y. never (there (halved p all) k (lower k b y) b (holds k b y) y) f) (λ e. e))))
    where
      lower : (k : ℕ) → k < all → q k ≡ true → halved p all ≤ k
      lower k b y = elim (dec_lt k (halved p all)) [ yes c ↦ never (only k b y) ((found h).below k (omega arith)) | no c ↦ omega arith ]

      holds : (k : ℕ) → k < all → q k ≡ true → p (halved p all) ≡ true
      holds k b y = test (p (halved p all)) (λ t. t) (λ f. let e : k ≡ halved p all = omega (arith, (found h).last f, lower k b y) in rw e at (only k b y))

  -- and of the test itself
  pub halved-first : 0 < all → first p all ≡ cond (p (halved p all)) (halved p all) all
  halved-first h = halved_finds p h (λ i b t. t) (λ i j l b t y. t)

-- rising numbers, and the place of one of them
pub halved-key : (f : ℕ → ℕ) (n x : ℕ) → 0 < n → ((i j : ℕ) → i ≤ j → j < n → f i ≤ f j)
    → first (λ i. eqb (f i) x) n ≡ cond (eqb (f (halved (λ i. leb x (f i)) n)) x) (halved (λ i. leb x (f i)) n) n
halved-key f n x h up =
    halved_finds (λ i. leb x (f i)) n (λ i j l b t. le-leb x (f j) (omega (arith, leb-true x (f i) t, up i j l b))) (λ i. eqb (f i) x) h
    (λ i b t. le-leb x (f i) (omega (arith, eqb-true (f i) x t)))
    (λ i j l b t y. eq-eqb (f i) x (omega (arith, leb-true x (f i) t, eqb-true (f j) x y, up i j l b)))

-- ---- a loop that halves, its measure `turns n`

-- n places are left that end with hi, and their turns lead to where halving all leads
abbrev pub Leads : (ℕ → Bool) → ℕ → ℕ → ℕ → Type 0
Leads p all hi n = narrowed (turns n) p hi n ≡ halved p all

-- all places are left
pub leads_all : (p : ℕ → Bool) (all : ℕ) → Leads p all (all - 1) all
unfolding halved
leads_all p all = refl

-- a turn: the code went to `to`
pub leads_turn : (p : ℕ → Bool) (all hi n to : ℕ) → 1 < n → to ≡ hi - cond (p (hi - n / 2)) (n / 2) 0 → Leads p all hi n → Leads p all to (n - n / 2)
unfolding narrowed
leads_turn p all hi n to h e l = rw e (rw (turns-halved n h) at l)

-- one place is left
pub leads_there : (p : ℕ → Bool) (all hi n : ℕ) → n ≡ 1 → Leads p all hi n → hi ≡ halved p all
unfolding narrowed
leads_there p all hi n e l = rw (e, turns-one) at l
