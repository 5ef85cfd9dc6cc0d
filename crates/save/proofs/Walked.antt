-- The walks over the saved keys: choosing them, laying their rows, laying their bodies. Assumes nothing.
use Prim.Native.Nat.{ℕ, zero, suc, ◌+◌, ◌≤◌, ◌<◌}
use native.Mathlib.Omega.{arith}
use mathlib.Core.Path.{◌≡◌, refl, sym}
use mathlib.Core.Bool.{Bool, true, false, cond}
use mathlib.Core.Option.{Option, none, some}
use mathlib.Core.List.{List, [], ◌∷◌}
use lib.ListN.{length, get_or, drop, length-append}
use lib.Seq.{drop-cons}
use Rattle.std.proofs.lemmas.List.{drop_all}
use Rattle.words.specs.Runs.{only}
use Rattle.text.specs.Text.{Page, put_all}
use Rattle.text.proofs.Pieces.{put-more}
use Rattle.message.specs.declared.Key.{Key}
use Rattle.lookup.specs.View.{map_in, edition_in}
use Rattle.lookup.specs.Next.{next_key, walk}
use Rattle.image.specs.Write.{body_of, row_bytes, bodies_of, is_saved}
use Rattle.save.specs.Pieces.{map_pieces, row_pieces, bodies_pieces}

-- a walk gives as many keys as it may
pub walk_most : (t : List ℕ) (n : ℕ) (given : Option Key) → length (walk n t given) ≤ n
unfolding walk
walk_most t zero given = omega arith
walk_most t (suc n) none = omega arith
walk_most t (suc n) (some k) = omega (arith, walk_most t n (next_key t k))

-- ---- choosing

module _ (t : List ℕ) where
  -- the saved keys of some
  abbrev pub rest : List Key → List Key
  rest ks = only (is_saved t) ks

  module _ (k : Key) (now later : List Key) (e : now ≡ k ∷ later) where
    pub taken : is_saved t k ≡ true → rest now ≡ k ∷ rest later
    taken y = rw (e, y) refl

    pub passed : is_saved t k ≡ false → rest now ≡ rest later
    passed z = rw (e, z) refl

  pub bodies_more : (k : Key) (ks : List Key) → length (bodies_of (map_in t) (k ∷ ks)) ≡ length (body_of (map_in t k)) + length (bodies_of (map_in t) ks)
  unfolding bodies_of
  bodies_more k ks = length-append (body_of (map_in t k)) (bodies_of (map_in t) ks)

  pub no_bodies : length (bodies_of (map_in t) []) ≡ 0
  unfolding bodies_of
  no_bodies = refl

  -- each of them is saved
  pub each_saved : (ks : List Key) (i : ℕ) (d : Key) → i < length (rest ks) → is_saved t (get_or (rest ks) i d) ≡ true
  each_saved [] i d h = absurd (omega (arith, h))
  each_saved (k ∷ ks) i d h = go (is_saved t k) refl i h (λ j l. each_saved ks j d l)
    where
      go : (b : Bool) → is_saved t k ≡ b → (i : ℕ) → i < length (cond b (k ∷ rest ks) (rest ks)) → ((j : ℕ) → j < length (rest ks) → is_saved t (get_or (rest ks) j d) ≡ true)
          → is_saved t (get_or (cond b (k ∷ rest ks) (rest ks)) i d) ≡ true
      go true e zero l ih = e
      go true e (suc i) l ih = ih i (omega (arith, l))
      go false e i l ih = ih i l

-- ---- laying what each has

module _ (t : List ℕ) (ks : List Key) (i : ℕ) (d : Key) (h : i < length ks) where
  pub rows_turn : (form from len : ℕ) (q r : Page) → len ≡ length (body_of (map_in t (get_or ks i d))) → r ≡ put_all q (row_bytes form (get_or ks i d) (edition_in t (get_or ks i d)) from len ∷ [])
      → put_all r (row_pieces form (edition_in t) (map_in t) (from + len) (drop (suc i) ks)) ≡ put_all q (row_pieces form (edition_in t) (map_in t) from (drop i ks))
  unfolding put_all row_pieces
  rows_turn form from len q r v w = rw (drop-cons ks i d h, w, v)

  pub bodies_turn : (q r : Page) → r ≡ put_all q (map_pieces (map_in t (get_or ks i d))) → put_all r (bodies_pieces (map_in t) (drop (suc i) ks)) ≡ put_all q (bodies_pieces (map_in t) (drop i ks))
  unfolding bodies_pieces
  bodies_turn q r w = rw (drop-cons ks i d h, w) (sym (put-more (map_pieces (map_in t (get_or ks i d))) (bodies_pieces (map_in t) (drop (suc i) ks)) q))

module _ (t : List ℕ) (ks : List Key) (i : ℕ) (h : length ks < i + 1) where
  none_left : drop i ks ≡ []
  none_left = drop_all i ks (omega arith)

  pub rows_end : (form from : ℕ) (q : Page) → q ≡ put_all q (row_pieces form (edition_in t) (map_in t) from (drop i ks))
  unfolding put_all row_pieces
  rows_end form from q = rw none_left

  pub bodies_end : (q : Page) → q ≡ put_all q (bodies_pieces (map_in t) (drop i ks))
  unfolding put_all bodies_pieces
  bodies_end q = rw none_left
