-- The pieces joined are the image, and laid into a buffer that has room for them they are the image laid over its start. Assumes nothing.
use Prim.Native.Nat.{ℕ, zero, suc, ◌+◌, ◌≤◌, ◌<◌}
use native.Mathlib.Omega.{arith}
use mathlib.Core.Path.{◌≡◌, refl, sym, ap, ◌∙◌}
use mathlib.Core.Option.{Option}
use mathlib.Core.List.{List, [], ◌∷◌, ◌++◌, flatten}
use borrow.Author.Tests.{lt-ltb, le-ltb}
use lib.Dec.{ltb}
use lib.ListN.{length, length-append}
use Rattle.answers.specs.Answers.{Said, outcome, plain}
use Rattle.answers.specs.Tests.{◌when◌, tested}
use Rattle.splice.specs.Splice.{splice, laid}
use Rattle.splice.proofs.Laws.{lay_no, laid-is}
use Rattle.text.specs.Text.{Page, page, put_all}
use Rattle.text.proofs.Pieces.{flat_more, pieces_laid}
use Rattle.message.specs.declared.Key.{Key}
use Rattle.message.specs.declared.Head.{Head}
use Rattle.message.specs.declared.Place.{Place}
use Rattle.maps.specs.Maps.{Map, Nothing, Conflict, Held}
use Rattle.lookup.specs.View.{map_in, edition_in}
use Rattle.image.specs.Write.{body_from, body_of, rows_of, bodies_of, behind, image_from, saved_keys, image_in, image_of, saved_into}
use Rattle.image.proofs.Parse.{length-rows}
use Rattle.save.specs.Pieces.{body_pieces, map_pieces, row_pieces, bodies_pieces, image_pieces}

-- ---- joined

flat_body : (h : Head) (places : ℕ → Option Place) (p n : ℕ) → flatten (body_pieces h places p n) ≡ body_from h places p n
unfolding flatten body_pieces body_from
flat_body h places p zero = refl
flat_body h places p (suc n) = rw (flat_body h places (suc p) n)

flat_map : (M : Map) → flatten (map_pieces M) ≡ body_of M
unfolding flatten
flat_map Nothing = refl
flat_map Conflict = refl
flat_map (Held h places) = flat_body h places 1 h.n

flat_bodies : (map : Key → Map) (ks : List Key) → flatten (bodies_pieces map ks) ≡ bodies_of map ks
unfolding flatten bodies_pieces bodies_of
flat_bodies map [] = refl
flat_bodies map (k ∷ ks) = flat_more (map_pieces (map k)) (bodies_pieces map ks) ∙ rw (flat_map (map k), flat_bodies map ks)

module _ (form : ℕ) (edition : Key → ℕ) (map : Key → Map) where
  flat_rows : (from : ℕ) (ks : List Key) → flatten (row_pieces form edition map from ks) ≡ rows_of form edition map from ks
  unfolding flatten row_pieces rows_of
  flat_rows from [] = refl
  flat_rows from (k ∷ ks) = rw (flat_rows (from + length (body_of (map k))) ks)

  flat_image : (ks : List Key) → flatten (image_pieces form edition map ks) ≡ image_from form edition map ks
  unfolding flatten image_from
  flat_image ks =
      ap (λ (l : List ℕ). form ∷ length ks ∷ l)
      (flat_more (row_pieces form edition map (behind form (length ks)) ks) (bodies_pieces map ks) ∙ rw (flat_rows (behind form (length ks)) ks, flat_bodies map ks))

flat_is : (form : ℕ) (t : List ℕ) → flatten (image_pieces form (edition_in t) (map_in t) (saved_keys t)) ≡ image_in form t
unfolding image_in
flat_is form t = flat_image form (edition_in t) (map_in t) (saved_keys t)

-- how many bytes the image has
pub image_size : (form : ℕ) (t : List ℕ) → length (image_in form t) ≡ behind form (length (saved_keys t)) + length (bodies_of (map_in t) (saved_keys t))
unfolding image_in image_from
image_size form t =
    let e = length-rows form (edition_in t) (map_in t) (behind form (length (saved_keys t))) (saved_keys t) in
    simp length-append (omega (arith, e))

-- by what was counted
pub size_is : (form : ℕ) (t : List ℕ) (c n m : ℕ) → c ≡ length (saved_keys t) → n ≡ behind form c → m ≡ length (bodies_of (map_in t) (saved_keys t)) → n + m ≡ length (image_in form t)
size_is form t c n m e f g = (λ i. (f ∙ ap (behind form) e) i + g i) ∙ sym (image_size form t)

-- ---- laid one after another

-- from the start of a buffer that has room, by any list
laid_all : (xs : List (List ℕ)) (x out later : List ℕ) (r : ℕ) → flatten xs ≡ x → length x ≤ length out → page r later ≡ put_all (page 0 out) xs → (r ≡ length x) × (later ≡ laid out 0 x)
laid_all xs x out later r f room e =
    let z : 0 + length (flatten xs) ≡ length x = omega (arith, ap length f) in
    let q = e ∙ pieces_laid xs 0 out (omega arith) in
    (ap (λ (p : Page). p.at) q ∙ z, ap (λ (p : Page). p.bytes) q ∙ ap (splice out 0) f ∙ (laid-is out 0 x (omega arith)).1)

-- what saving answers, by any list
saved_13 : (x out later : List ℕ) (a : Said) → a ≡ plain 13 → length out < length x → later ≡ laid out 0 x
    → outcome a later ≡ tested (plain 13 when ltb (length out) (length x) ∷ []) out (outcome (plain 0) (splice out 0 x))
saved_13 x out later a e h f = rw (e, f ∙ sym (lay_no out 0 x (omega arith)).1, lt-ltb (length out) (length x) h)

saved_0 : (x out later : List ℕ) (a : Said) → a ≡ plain 0 → length x ≤ length out → later ≡ laid out 0 x
    → outcome a later ≡ tested (plain 13 when ltb (length out) (length x) ∷ []) out (outcome (plain 0) (splice out 0 x))
saved_0 x out later a e h f = rw (e, f ∙ sym (laid-is out 0 x (omega arith)).1, le-ltb (length out) (length x) h)

module _ (form : ℕ) (t out : List ℕ) where
  abbrev rows : List Key → ℕ → List (List ℕ)
  rows ks from = row_pieces form (edition_in t) (map_in t) from ks

  abbrev bodies : List Key → List (List ℕ)
  bodies ks = bodies_pieces (map_in t) ks

  -- the whole image, of its three parts
  pub image_pieces_are : (ks : List Key) (c from : ℕ) → ks ≡ saved_keys t → c ≡ length ks → from ≡ behind form c
      → put_all (page 0 out) ((form ∷ c ∷ []) ∷ (rows ks from ++ bodies ks)) ≡ put_all (page 0 out) (image_pieces form (edition_in t) (map_in t) (saved_keys t))
  image_pieces_are ks c from its e b =
      ap (λ (n : ℕ). put_all (page 0 out) ((form ∷ c ∷ []) ∷ (rows ks n ++ bodies ks))) b
      ∙ ap (λ (n : ℕ). put_all (page 0 out) ((form ∷ n ∷ []) ∷ (rows ks (behind form n) ++ bodies ks))) e
      ∙ ap (λ (x : List Key). put_all (page 0 out) (image_pieces form (edition_in t) (map_in t) x)) its

  -- where it has room: how long it is, and what the buffer holds
  pub laid_in : (r : ℕ) (later : List ℕ) → length (image_in form t) ≤ length out → page r later ≡ put_all (page 0 out) (image_pieces form (edition_in t) (map_in t) (saved_keys t))
      → (r ≡ length (image_in form t)) × (later ≡ laid out 0 (image_in form t))
  laid_in r later room e = laid_all (image_pieces form (edition_in t) (map_in t) (saved_keys t)) (image_in form t) out later r (flat_is form t) room e

  pub laid-not : length out < length (image_in form t) → out ≡ laid out 0 (image_in form t)
  laid-not h = (lay_no out 0 (image_in form t) (omega arith)).1

-- what saving answers
module _ (t out : List ℕ) where
  pub save_13 : (a : Said) (later : List ℕ) → a ≡ plain 13 → length out < length (image_of t) → later ≡ laid out 0 (image_of t) → outcome a later ≡ saved_into t out
  unfolding saved_into
  save_13 a later e h f = saved_13 (image_of t) out later a e h f

  pub save_0 : (a : Said) (later : List ℕ) → a ≡ plain 0 → length (image_of t) ≤ length out → later ≡ laid out 0 (image_of t) → outcome a later ≡ saved_into t out
  unfolding saved_into
  save_0 a later e h f = saved_0 (image_of t) out later a e h f
