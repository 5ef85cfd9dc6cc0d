-- How long an image is: on any words, and of a table that calls can bring. An image is bytes. Assumes nothing.
use Prim.Native.Nat.{ℕ, zero, suc, ◌+◌, ◌*◌, ◌%◌, ◌≤◌, ◌<◌}
use native.Mathlib.Omega.{arith}
use native.Mathlib.Nat.{mul-suc}
use mathlib.Core.Path.{◌≡◌, refl, sym}
use mathlib.Core.Bool.{Bool, true, false, or-true}
use mathlib.Core.Option.{Option}
use mathlib.Core.List.{List, [], ◌∷◌, ◌++◌}
use lib.Dec.{eqb}
use lib.ListN.{length, take, length-append}
use Rattle.words.proofs.Tests.{test}
use Rattle.message.specs.declared.Key.{Key}
use Rattle.message.specs.declared.Head.{Head}
use Rattle.message.specs.declared.Place.{Place}
use Rattle.record.specs.Record.{Bytes}
use Rattle.maps.specs.Maps.{Map, Nothing, Conflict, Held, same_key}
use Rattle.maps.proofs.Tests.{key-refl}
use Rattle.judge.specs.Judge.{count_of}
use Rattle.history.specs.History.{Event}
use Rattle.history.proofs.Keys.{has}
use Rattle.keyrow.specs.Row.{InBytes}
use Rattle.lookup.specs.View.{map_in, edition_in}
use Rattle.learned.specs.Events.{words_by}
use Rattle.open.specs.Open.{width_for}
use Rattle.open.proofs.InHand.{usable_few}
use Rattle.written.specs.Written.{flag, five_of}
use Rattle.taught.specs.Taught.{AllTaught}
use Rattle.image.specs.Write.{place_or, body_from, body_of, edition_byte, full_row, row_size, row_bytes, behind, rows_of, bodies_of, image_from, saved_keys, image_in}
use Rattle.image.proofs.Parse.{length_body, length-rows}
use Rattle.image.proofs.Sayable.{SayableMap, map_sayable}
use Rattle.image.proofs.Chosen.{few_saved, saved_usable, saved_bytes}

-- ---- how long

pub body_length : (M : Map) → 5 * count_of M ≡ length (body_of M)
body_length Nothing = refl
body_length Conflict = refl
body_length (Held h places) = sym (length_body h places 1 h.n)

module _ (map : Key → Map) (most : ℕ) where
  bodies_length : (ks : List Key) → ((k : Key) → has k ks ≡ true → length (body_of (map k)) ≤ most) → length (bodies_of map ks) ≤ most * length ks
  unfolding bodies_of
  bodies_length [] f = omega arith
  bodies_length (k ∷ ks) f =
      let ih = bodies_length ks (λ j t. f j (rw t (or-true (same_key k j)))) in
      let one = f k (rw (key-refl k)) in
      rw (length-append (body_of (map k)) (bodies_of map ks), mul-suc most (length ks)) (omega (arith, ih, one))

image_long : (form : ℕ) (edition : Key → ℕ) (map : Key → Map) (most : ℕ) (ks : List Key) → ((k : Key) → has k ks ≡ true → length (body_of (map k)) ≤ most)
    → length (image_from form edition map ks) ≤ 2 + 8 * length ks + most * length ks
unfolding image_from
image_long form edition map most ks f =
    let d = bodies_length map most ks f in
    let e = length-rows form edition map (behind form (length ks)) ks in
    let w : row_size form * length ks ≤ 8 * length ks = test (eqb form 1) (λ y. rw y (omega arith)) (λ n. rw n (omega arith)) in
    simp length-append (omega (arith, d, e, w))

-- on any words: 16 rows with 64 positions each
pub image_length : (form : ℕ) (t : List ℕ) → length (image_in form t) ≤ 5250
unfolding image_in
image_length form t =
    let f = image_long form (edition_in t) (map_in t) 320 (saved_keys t) (λ k e. omega (arith, body_length (map_in t k), usable_few (width_for t k) t k (saved_usable t k e))) in
    omega (arith, f, few_saved t)

-- of a table that calls can bring: 16 rows with 31 positions each
sayable_count : (k : Key) (M : Map) → SayableMap k M → count_of M ≤ 31
sayable_count k Nothing u = omega arith
sayable_count k Conflict u = omega arith
sayable_count k (Held h places) u = u.count.1

pub most-long : (form : ℕ) (h : List Event) → AllTaught h → length (image_in form (words_by h)) ≤ 2610
unfolding image_in
most-long form h ok =
    let t = words_by h in
    let f = image_long form (edition_in t) (map_in t) 155 (saved_keys t) (λ k e. omega (arith, body_length (map_in t k), sayable_count k (map_in t k) (map_sayable h ok k (saved_bytes t k e)))) in
    omega (arith, f, few_saved t)

-- ---- an image is bytes

both : (a b : List ℕ) → Bytes a → Bytes b → Bytes (a ++ b)
both [] b u v = v
both (x ∷ a) b u v = (u.0, both a b u.1 v)

flags_small : (p t : Bool) (n : ℕ) → flag p * 128 + flag t * 64 + n % 32 < 256
flags_small true true n = omega arith
flags_small true false n = omega arith
flags_small false true n = omega arith
flags_small false false n = omega arith

pub five_bytes : (h : Head) (p : ℕ) (x : Place) → Bytes (five_of h p x)
unfolding five_of
five_bytes h p x = (omega arith, (omega arith, (omega arith, (flags_small h.proprietary h.transport h.n, (omega arith, tt)))))

body_bytes : (h : Head) (places : ℕ → Option Place) (p n : ℕ) → Bytes (body_from h places p n)
unfolding body_from
body_bytes h places p zero = tt
body_bytes h places p (suc n) = both (five_of h p (place_or (places p))) (body_from h places (suc p) n) (five_bytes h p (place_or (places p))) (body_bytes h places (suc p) n)

map-bytes : (M : Map) → Bytes (body_of M)
map-bytes Nothing = tt
map-bytes Conflict = tt
map-bytes (Held h places) = body_bytes h places 1 h.n

bytes-first : (n : ℕ) (l : List ℕ) → Bytes l → Bytes (take n l)
bytes-first zero l b = tt
bytes-first (suc n) [] b = tt
bytes-first (suc n) (x ∷ l) b = (b.0, bytes-first n l b.1)

row-bytes : (form : ℕ) (k : Key) (e at n : ℕ) → InBytes k → Bytes (row_bytes form k e at n)
unfolding row_bytes full_row
row-bytes form k e at n b =
    bytes-first (row_size form) _ (b.source, (b.destination, (b.number, (omega arith, (omega arith, (omega arith, (omega arith, (one, tt))))))))
  where
    one : edition_byte e < 256
    one = test (eqb e 2004) (λ y. rw y (omega arith)) (λ f. rw f (omega arith))

bodies_bytes : (map : Key → Map) (ks : List Key) → Bytes (bodies_of map ks)
unfolding bodies_of
bodies_bytes map [] = tt
bodies_bytes map (k ∷ ks) = both (body_of (map k)) (bodies_of map ks) (map-bytes (map k)) (bodies_bytes map ks)

rows-bytes : (form : ℕ) (edition : Key → ℕ) (map : Key → Map) (ks : List Key) → ((k : Key) → has k ks ≡ true → InBytes k) → (from : ℕ) → Bytes (rows_of form edition map from ks)
unfolding rows_of
rows-bytes form edition map [] f from = tt
rows-bytes form edition map (k ∷ ks) f from =
    both (row_bytes form k (edition k) from (length (body_of (map k)))) (rows_of form edition map (from + length (body_of (map k))) ks)
    (row-bytes form k (edition k) from (length (body_of (map k))) (f k (rw (key-refl k))))
    (rows-bytes form edition map ks (λ j t. f j (rw t (or-true (same_key k j)))) (from + length (body_of (map k))))

pub image_bytes : (form : ℕ) → form < 256 → (t : List ℕ) → Bytes (image_in form t)
unfolding image_in image_from
image_bytes form small t = (
  small,
  (
    omega (arith, few_saved t),
    both (rows_of form (edition_in t) (map_in t) (behind form (length (saved_keys t))) (saved_keys t)) (bodies_of (map_in t) (saved_keys t))
        (rows-bytes form (edition_in t) (map_in t) (saved_keys t) (saved_bytes t) (behind form (length (saved_keys t)))) (bodies_bytes (map_in t) (saved_keys t)),
  ),
)
