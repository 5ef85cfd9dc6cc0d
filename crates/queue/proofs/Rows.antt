-- The queues of the ports in their words: a row that is lent and comes back, and what entering and leaving make of the frames of each port. Assumes nothing.
use mathlib.Core.Path.{◌≡◌, sym, ap, ◌∙◌}
use mathlib.Core.Bool.{Bool, false, cond}
use mathlib.Core.Option.{none, some}
use mathlib.Core.List.{List, [], ◌∷◌, ◌++◌}
use Prim.Native.Nat.{ℕ, ◌+◌, ◌*◌, ◌/◌, ◌≤◌, ◌<◌}
use native.Mathlib.Omega.{arith}
use borrow.Author.Tests.{lt-ltb, le-ltb}
use lib.Dec.{ltb}
use lib.ListN.{length, take, drop}
use Rattle.words.specs.Rows.{row_at, put_at}
use Rattle.words.proofs.Rows.{length-row_at, length-put_at, row_at-put_at, row_at-put_at-other, put_at-same}
use Rattle.std.specs.Prelude.{Option}
use Rattle.queue.specs.Queue.{leaver, stayers}
use Rattle.queue.specs.Row.{priority_in, waiting_in, how_many, Entered, entered, row_enters, enters_at, Gone, gone, left_with, row_leaves, leaves_at, waiting_at}
use Rattle.queue.proofs.Words.{count_most, waiting-long, full_stays, enters_long, enters_waits, enters_fits, leaves_long, leaves_waits, leaves_who}

-- ---- row i is lent, behind the rows before it, and comes back

module _ (q : List ℕ) (i : ℕ) where
  module _ {front rest row : List ℕ} (h : i < length q / 65) (e : front ≡ take (i * 65) q) (f : rest ≡ drop (i * 65) q) (g : row ≡ take 65 rest) where
    pub lent_enters : (w : ℕ) {b : Bool} {r : List ℕ} → entered b r ≡ row_enters row w → entered b (front ++ (r ++ drop 65 rest)) ≡ enters_at q i w
    unfolding enters_at row_at put_at
    lent_enters w {b} {r} o = rw (e, f, lt-ltb i (length q / 65) h) (ap (λ (x : Entered). entered x.fits (put_at 65 q i x.words)) (rw (g, f) at o))

    pub lent_leaves : (l : Option ℕ) {r : List ℕ} → left_with l r ≡ row_leaves row → left_with l (front ++ (r ++ drop 65 rest)) ≡ leaves_at q i
    unfolding leaves_at row_at put_at
    lent_leaves l {r} o = rw (e, f, lt-ltb i (length q / 65) h) (ap (λ (x : Gone). gone x.any x.word (put_at 65 q i x.words)) (rw (g, f) at o))

    pub lent-waiting : (k : ℕ) {n : ℕ} → n ≡ how_many k (waiting_in row) → n ≡ how_many k (waiting_at q i)
    unfolding waiting_at row_at
    lent-waiting k o = rw (lt-ltb i (length q / 65) h) (rw (g, f) at o)

  -- no row has that number
  module _ (h : length q / 65 ≤ i) where
    pub none_enters : (w : ℕ) → entered false q ≡ enters_at q i w
    unfolding enters_at
    none_enters w = rw (le-ltb i (length q / 65) h)

    pub none_leaves : gone false 0 q ≡ leaves_at q i
    unfolding leaves_at
    none_leaves = rw (le-ltb i (length q / 65) h)

    pub none_waiting : (f : ℕ) → 0 ≡ how_many f (waiting_at q i)
    unfolding waiting_at
    none_waiting f = rw (le-ltb i (length q / 65) h)

-- ---- four ports

module _ (q : List ℕ) (long : length q ≡ 260) (i : ℕ) (h : i < 4) where
  fits : i * 65 + 65 ≤ length q
  fits = rw long (omega arith)

  row-long : length (row_at 65 q i) ≡ 65
  row-long = length-row_at 65 q i fits

  pub waiting-is : waiting_at q i ≡ waiting_in (row_at 65 q i)
  unfolding waiting_at
  waiting-is = rw (long, lt-ltb i 4 h)

  pub waiting-most : length (waiting_at q i) ≤ 64
  waiting-most = rw (waiting-is, waiting-long (row_at 65 q i) row-long) (count_most (row_at 65 q i))

  enters_is : (w : ℕ) → enters_at q i w ≡ entered (row_enters (row_at 65 q i) w).fits (put_at 65 q i (row_enters (row_at 65 q i) w).words)
  unfolding enters_at
  enters_is w = rw (long, lt-ltb i 4 h)

  leaves_is : leaves_at q i ≡ gone (row_leaves (row_at 65 q i)).any (row_leaves (row_at 65 q i)).word (put_at 65 q i (row_leaves (row_at 65 q i)).words)
  unfolding leaves_at
  leaves_is = rw (long, lt-ltb i 4 h)

-- a row that is put
module _ (q : List ℕ) (long : length q ≡ 260) (i : ℕ) (h : i < 4) (r : List ℕ) (e : length r ≡ 65) where
  put-long : length (put_at 65 q i r) ≡ 260
  put-long = length-put_at 65 q i (fits q long i h) r e ∙ long

  put_own : waiting_at (put_at 65 q i r) i ≡ waiting_in r
  put_own = waiting-is (put_at 65 q i r) put-long i h ∙ ap waiting_in (row_at-put_at 65 q i (fits q long i h) r e)

  put_other : (j : ℕ) → j < 4 → (j ≡ i → ⊥) → waiting_at (put_at 65 q i r) j ≡ waiting_at q j
  put_other j l ne =
      waiting-is (put_at 65 q i r) put-long j l
      ∙ ap waiting_in (row_at-put_at-other 65 q i (fits q long i h) r e j ne (fits q long j l)) ∙ sym (waiting-is q long j l)

-- a frame enters port i
module _ (q : List ℕ) (long : length q ≡ 260) (i : ℕ) (h : i < 4) (w : ℕ) where
  abbrev row : List ℕ
  row = row_at 65 q i

  after-long : length (row_enters row w).words ≡ 65
  after-long = enters_long row (row-long q long i h) w

  pub enter_fits : (enters_at q i w).fits ≡ ltb (length (waiting_at q i)) 64
  enter_fits = rw (enters_is q long i h w, waiting-is q long i h) (enters_fits row (row-long q long i h) w)

  pub enter_long : length (enters_at q i w).words ≡ 260
  enter_long = rw (enters_is q long i h w) (put-long q long i h (row_enters row w).words after-long)

  pub enter_own : waiting_at (enters_at q i w).words i ≡ cond (ltb (length (waiting_at q i)) 64) (waiting_at q i ++ (w ∷ [])) (waiting_at q i)
  enter_own =
      rw (enters_is q long i h w, waiting-is q long i h) (put_own q long i h (row_enters row w).words after-long ∙ enters_waits row (row-long q long i h) w)

  pub enter_other : (j : ℕ) → j < 4 → (j ≡ i → ⊥) → waiting_at (enters_at q i w).words j ≡ waiting_at q j
  enter_other j l ne = rw (enters_is q long i h w) (put_other q long i h (row_enters row w).words after-long j l ne)

-- 64 wait: no word changes
pub enter_stays : (q : List ℕ) → length q ≡ 260 → (i : ℕ) → i < 4 → (w : ℕ) → (enters_at q i w).fits ≡ false → (enters_at q i w).words ≡ q
enter_stays q long i h w n =
    let r = row_at 65 q i in
    rw (enters_is q long i h w) (ap (put_at 65 q i) (full_stays r w (rw (enters_is q long i h w) at n)) ∙ put_at-same 65 q i (fits q long i h))

-- one leaves port i
module _ (q : List ℕ) (long : length q ≡ 260) (i : ℕ) (h : i < 4) where
  abbrev row' : List ℕ
  row' = row_at 65 q i

  left-long : length (row_leaves row').words ≡ 65
  left-long = leaves_long row' (row-long q long i h)

  pub leave_long : length (leaves_at q i).words ≡ 260
  leave_long = rw (leaves_is q long i h) (put-long q long i h (row_leaves row').words left-long)

  pub leave_own : waiting_at (leaves_at q i).words i ≡ stayers priority_in (waiting_at q i)
  leave_own = rw (leaves_is q long i h, waiting-is q long i h) (put_own q long i h (row_leaves row').words left-long ∙ leaves_waits row' (row-long q long i h))

  pub leave_other : (j : ℕ) → j < 4 → (j ≡ i → ⊥) → waiting_at (leaves_at q i).words j ≡ waiting_at q j
  leave_other j l ne = rw (leaves_is q long i h) (put_other q long i h (row_leaves row').words left-long j l ne)

  pub leave_who : leaver priority_in (waiting_at q i) ≡ cond (leaves_at q i).any (some (leaves_at q i).word) none
  leave_who = rw (leaves_is q long i h, waiting-is q long i h) (leaves_who row' (row-long q long i h))
