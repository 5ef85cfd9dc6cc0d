-- Asking an undamaged image: each row has the key that the table has there, and names the body of that key's map inside the image; so asking for a key gives the body
-- of its map, and 22 comes exactly where the table has not saved the key. Assumes nothing.
use Prim.Native.Nat.{ℕ, zero, suc, ◌+◌, ◌*◌, ◌/◌, ◌%◌, ◌≤◌, ◌<◌}
use native.Mathlib.Omega.{arith}
use native.Mathlib.Decide.{dec_lt}
use native.Mathlib.Nat.{mul-zero, mul-suc}
use mathlib.Core.Path.{◌≡◌, refl, sym, ap, subst, ◌∙◌}
use mathlib.Core.Bool.{Bool, true, false, cond, or-true, and-eq-true_iff}
use mathlib.Core.List.{List, [], ◌∷◌, ◌++◌, append_assoc}
use borrow.Author.Tests.{lt-ltb, le-ltb, le-leb, lt-leb, ltb-true}
use lib.Dec.{eqb}
use lib.ListN.{length, get_or, take, drop, length-append}
use lib.Seq.{take_at, drop_at}
use Rattle.words.specs.First.{first}
use Rattle.words.proofs.First.{first_none, first_holds, first_below}
use Rattle.words.proofs.Tests.{test, never}
use Rattle.answers.specs.Answers.{plain}
use Rattle.message.specs.declared.Key.{Key}
use Rattle.maps.specs.Maps.{Map, same_key}
use Rattle.maps.proofs.Tests.{key_eq, key-refl}
use Rattle.history.specs.History.{most_keys}
use Rattle.history.proofs.Keys.{has}
use Rattle.keyrow.specs.Row.{key_of}
use Rattle.record.specs.Record.{Bytes}
use Rattle.lookup.specs.View.{map_in, edition_in}
use Rattle.lookup.proofs.KeyRow.{two_editions}
use Rattle.learned.specs.Events.{words_by}
use Rattle.image.specs.Write.{body_of, full_row, row_size, row_bytes, behind, rows_of, bodies_of, image_from, saved_keys, image_in}
use Rattle.image.specs.Read.{key_at, row_count, form_of, edition_at, events_of, good}
use Rattle.image.specs.Part.{row_place, off_at, len_at, row_asked, has_row, row_key, row_edition, row_body, row_with}
use Rattle.image.proofs.Parse.{Form, form_two, length-row, length-rows, byte-is, key-is, edition-is}
use Rattle.image.proofs.Chosen.{few_saved}
use Rattle.image.proofs.Again.{good-is, can_tell}
use Rattle.image.proofs.Lengths.{image_length}

-- ---- what a row of a written image says

word_back : (x : ℕ) → x < 65536 → x % 256 + x / 256 % 256 * 256 ≡ x
word_back x h = omega arith

module _ (form : ℕ) (k : Key) (e from len : ℕ) (l pre rest : List ℕ) (r : ℕ) (long : length pre ≡ r) (f : l ≡ pre ++ (row_bytes form k e from len ++ rest)) where
  off-is : from < 65536 → off_at l r ≡ from
  unfolding full_row
  off-is h = rw (byte-is form k e from len l pre rest r long f 3 (omega arith), byte-is form k e from len l pre rest r long f 4 (omega arith)) (word_back from h)

  len_is : len < 65536 → len_at l r ≡ len
  unfolding full_row
  len_is h = rw (byte-is form k e from len l pre rest r long f 5 (omega arith), byte-is form k e from len l pre rest r long f 6 (omega arith)) (word_back len h)

-- the edition that the row says, where its form has one
edition-said : (form : ℕ) → Form form → (k : Key) (e from len : ℕ) → cond (eqb e 2004) 2004 2010 ≡ e → (l pre rest : List ℕ) (r : ℕ) → length pre ≡ r → l ≡ pre ++ (row_bytes form k e from len ++ rest)
    → cond (eqb form 1) 2010 (edition_at l r) ≡ cond (eqb form 1) 2010 e
edition-said form is k e from len two l pre rest r long f =
    test (eqb form 1) (λ y. rw y)
    (λ n. let q : 2 ≡ form = rw n at is in
    rw n (edition-is l k e from len pre rest r long (f ∙ ap (λ (x : ℕ). pre ++ (row_bytes x k e from len ++ rest)) (sym q)) two))

body_at : (l pre x rest : List ℕ) (off len : ℕ) → l ≡ pre ++ (x ++ rest) → off ≡ length pre → len ≡ length x → take len (drop off l) ≡ x
body_at l pre x rest off len f a b =
    ap (λ (y : List ℕ). take len (drop off y)) f ∙ ap (take len) (drop_at pre (x ++ rest) off (sym a)) ∙ take_at x rest len (sym b)

-- the row at byte r is that of a key: its body lies inside, and is that of the key's map; and it says the key's edition, where its form has one
pub record RowOf (form : ℕ) (edition : Key → ℕ) (map : Key → Map) (l : List ℕ) (r : ℕ) (k : Key) : Type 0 where
  pub key : key_at l r ≡ k
  pub inside : off_at l r + len_at l r ≤ length l
  pub body : take (len_at l r) (drop (off_at l r) l) ≡ body_of (map k)
  pub said : cond (eqb form 1) 2010 (edition_at l r) ≡ cond (eqb form 1) 2010 (edition k)

abbrev key_in : List Key → ℕ → Key
key_in ks i = get_or ks i (key_of 0 0 0)

module _ (form : ℕ) (is : Form form) (edition : Key → ℕ) (two : (k : Key) → cond (eqb (edition k) 2004) 2004 2010 ≡ edition k) (map : Key → Map) where
  abbrev w : ℕ
  w = row_size form

  rows_at : (l : List ℕ) → length l < 65536 → (ks : List Key) (from r : ℕ) (pre mid : List ℕ)
      → l ≡ pre ++ (rows_of form edition map from ks ++ (mid ++ bodies_of map ks)) → length pre ≡ r → from ≡ r + w * length ks + length mid
      → (i : ℕ) → i < length ks → RowOf form edition map l (r + w * i) (key_in ks i)
  unfolding rows_of bodies_of
  rows_at l small [] from r pre mid f e q i h = absurd (omega arith)
  rows_at l small (j ∷ ks) from r pre mid f e q i h =
      let n = length (body_of (map j)) in
      let row = row_bytes form j (edition j) from n in
      let rows = rows_of form edition map (from + n) ks in
      let a = length-row form j (edition j) from n in
      let b = length-rows form edition map (from + n) ks in
      let c = mul-suc w (length ks) in
      let g : l ≡ pre ++ (row ++ (rows ++ (mid ++ (body_of (map j) ++ bodies_of map ks)))) = f ∙ simp append_assoc in
      let g' : l ≡ (pre ++ (row ++ (rows ++ mid))) ++ (body_of (map j) ++ bodies_of map ks) = g ∙ simp append_assoc in
      let v : from ≡ length (pre ++ (row ++ (rows ++ mid))) = simp length-append (omega (arith, a, b, c, e, q)) in
      let z : from + n + length (bodies_of map ks) ≡ length l = sym (ap length g' ∙ simp length-append (omega (arith, a, b, c, e, q))) in
      let rest = rows ++ (mid ++ (body_of (map j) ++ bodies_of map ks)) in
      let o : off_at l r ≡ from = off-is form j (edition j) from n l pre rest r e g (omega (arith, z, small)) in
      let m : len_at l r ≡ n = len_is form j (edition j) from n l pre rest r e g (omega (arith, z, small)) in
      let here : RowOf form edition map l r j = record {
        key = key-is form j (edition j) from n l pre rest r e g;
        inside = omega (arith, o, m, z);
        body = body_at l (pre ++ (row ++ (rows ++ mid))) (body_of (map j)) (bodies_of map ks) (off_at l r) (len_at l r) g' (o ∙ v) m;
        said = edition-said form is j (edition j) from n (two j) l pre rest r e g;
      } in
      go here
      (rows_at l small ks (from + n) (r + w) (pre ++ row) (mid ++ body_of (map j)) (g ∙ simp append_assoc) (simp length-append (omega (arith, a, e))) (simp length-append (omega (arith, c, q)))) i h
    where
      go : RowOf form edition map l r j → ((i : ℕ) → i < length ks → RowOf form edition map l (r + w + w * i) (key_in ks i))
          → (i : ℕ) → i < length (j ∷ ks) → RowOf form edition map l (r + w * i) (key_in (j ∷ ks) i)
      go here later zero h = let z : r ≡ r + w * 0 = omega (arith, mul-zero w) in subst (λ (p : ℕ). RowOf form edition map l p j) z here
      go here later (suc i) h =
          let z : r + w + w * i ≡ r + w * suc i = omega (arith, mul-suc w i) in subst (λ (p : ℕ). RowOf form edition map l p (key_in ks i)) z (later i (omega arith))

  pub row_at : (ks : List Key) → length (image_from form edition map ks) < 65536 → (i : ℕ) → i < length ks → RowOf form edition map (image_from form edition map ks) (behind form i) (key_in ks i)
  unfolding image_from
  row_at ks small i h = rows_at (image_from form edition map ks) small ks (behind form (length ks)) 2 (form ∷ length ks ∷ []) [] refl refl (omega arith) i h

-- ---- a key among the rows

where_it-is : (k : Key) (ks : List Key) → has k ks ≡ true → (i : ℕ) × (i < length ks) × (key_in ks i ≡ k)
where_it-is k [] e = never e refl
where_it-is k (j ∷ ks) e =
    test (same_key j k) (λ s. (0, omega arith, key_eq j k s))
    (λ n. let (i, h, q) = where_it-is k ks (rw n at e) in (suc i, omega arith, q))

it-is_there : (k : Key) (ks : List Key) (i : ℕ) → i < length ks → key_in ks i ≡ k → has k ks ≡ true
it-is_there k [] i h e = absurd (omega arith)
it-is_there k (j ∷ ks) zero h e = rw (e, key-refl k)
it-is_there k (j ∷ ks) (suc i) h e = rw (it-is_there k ks i (omega arith) e) (or-true (same_key j k))

module _ (form : ℕ) (edition : Key → ℕ) (map : Key → Map) (ks : List Key) (l : List ℕ) (count : row_count l ≡ length ks)
    (each : (i : ℕ) → i < length ks → RowOf form edition map l (row_place l i) (key_in ks i)) (k : Key) where
  abbrev test_at : ℕ → Bool
  test_at i = same_key (key_at l (row_place l i)) k

  -- it is there: the row found is its row
  row_found : has k ks ≡ true → (row_with l k < row_count l) × RowOf form edition map l (row_place l (row_with l k)) k
  unfolding row_with
  row_found e =
      let (i, h, q) = where_it-is k ks e in
      let hit : test_at i ≡ true = rw ((each i h).key, q) (key-refl k) in
      let f = first test_at (row_count l) in
      let small : f < row_count l = elim (dec_lt i f) [
        | yes u ↦ never hit (first_below test_at (row_count l) i u)
        | no u ↦ omega arith
      ] in
      let r = each f (omega arith) in
      let same : key_in ks f ≡ k = sym r.key ∙ key_eq (key_at l (row_place l f)) k (first_holds test_at (row_count l) small) in
      (small, subst (λ (j : Key). RowOf form edition map l (row_place l f) j) same r)

  row-missing : has k ks ≡ false → row_with l k ≡ row_count l
  unfolding row_with
  row-missing e =
      first_none test_at (row_count l) (λ i h.
      test (test_at i) (λ t. never (it-is_there k ks i (omega arith) (sym (each i (omega arith)).key ∙ key_eq (key_at l (row_place l i)) k t)) e) (λ f. f))

-- ---- an undamaged image

module _ (form : ℕ) (is : Form form) (t : List ℕ) where
  count_of : row_count (image_in form t) ≡ length (saved_keys t)
  unfolding image_in image_from
  count_of = refl

  row_of : (i : ℕ) → i < length (saved_keys t) → RowOf form (edition_in t) (map_in t) (image_in form t) (behind form i) (key_in (saved_keys t) i)
  unfolding image_in
  row_of i h = row_at form is (edition_in t) (λ k. (two_editions t k).1) (map_in t) (saved_keys t) (omega (arith, ap length (image_unfolded), image_length form t)) i h
    where
      image_unfolded : image_in form t ≡ image_from form (edition_in t) (map_in t) (saved_keys t)
      image_unfolded = refl

module _ (l : List ℕ) (g : good l ≡ true) where
  abbrev of : List ℕ
  of = words_by (events_of l)

  good-count : row_count l ≡ length (saved_keys of)
  good-count = ap row_count (sym (good-is l g)) ∙ count_of (form_of l) (form_two l) of

  good-row : (i : ℕ) → i < length (saved_keys of) → RowOf (form_of l) (edition_in of) (map_in of) l (row_place l i) (key_in (saved_keys of) i)
  good-row i h =
      subst (λ (x : List ℕ). RowOf (form_of l) (edition_in of) (map_in of) x (behind (form_of l) i) (key_in (saved_keys of) i)) (good-is l g) (row_of (form_of l) (form_two l) of i h)

-- an image has at most 16 rows, and of a row that it has the body lies inside it
pub row_inside : (l : List ℕ) (i : ℕ) → has_row l i ≡ true → (i < most_keys) × (off_at l (row_place l i) + len_at l (row_place l i) ≤ length l)
unfolding has_row
row_inside l i e =
    let (g, h) = (and-eq-true_iff (good l) _).0 e in
    let b = ltb-true i (row_count l) h in
    (omega (arith, b, good-count l g, few_saved (words_by (events_of l))), (good-row l g i (omega (arith, b, good-count l g))).inside)

-- each row has the key that the table has there, its body is that of the key's map, and its edition the key's
module _ (l : List ℕ) (b : Bytes l) (g : good l ≡ true) where
  abbrev its : List ℕ
  its = words_by (events_of l)

  -- in form 1 every saved key has 2010
  said-edition : (k : Key) → has k (saved_keys its) ≡ true → cond (eqb (form_of l) 1) 2010 (edition_in its k) ≡ edition_in its k
  said-edition k t = test (eqb (form_of l) 1) (λ y. rw y (sym (can_tell l b y k t))) (λ n. rw n)

  pub row_of-table : (i : ℕ) → i < row_count l
      → (row_key l i ≡ key_in (saved_keys its) i) × (row_body l i ≡ body_of (map_in its (row_key l i))) × (row_edition l i ≡ edition_in its (row_key l i))
  unfolding row_key row_body row_edition has_row
  row_of-table i h =
      let s : i < length (saved_keys its) = omega (arith, h, good-count l g) in
      let r = good-row l g i s in
      let k = key_in (saved_keys its) i in
      rw (g, lt-ltb i (row_count l) h) (
        r.key,
        r.body ∙ ap (λ (j : Key). body_of (map_in its j)) (sym r.key),
        r.said ∙ said-edition k (it-is_there k (saved_keys its) i s refl) ∙ ap (edition_in its) (sym r.key),
      )

-- asking for a key of the table that an undamaged image stands for: its body, and 0; of any other key nothing, and 22
module _ (l : List ℕ) (b : Bytes l) (g : good l ≡ true) (k : Key) where
  abbrev theirs : List ℕ
  theirs = words_by (events_of l)

  there : has k (saved_keys theirs) ≡ true → (row_with l k < row_count l) × RowOf (form_of l) (edition_in theirs) (map_in theirs) l (row_place l (row_with l k)) k
  there e = row_found (form_of l) (edition_in theirs) (map_in theirs) (saved_keys theirs) l (good-count l g) (good-row l g) k e

  missing : has k (saved_keys theirs) ≡ false → row_with l k ≡ row_count l
  missing n = row-missing (form_of l) (edition_in theirs) (map_in theirs) (saved_keys theirs) l (good-count l g) (good-row l g) k n

  pub body_of_lem : row_body l (row_with l k) ≡ cond (has k (saved_keys theirs)) (body_of (map_in theirs k)) []
  unfolding row_body has_row
  body_of_lem =
      test (has k (saved_keys theirs))
      (λ e. let (s, r) = there e in rw (e, g, lt-ltb (row_with l k) (row_count l) s) r.body)
      (λ n. let m = missing n in rw (n, g, m, le-ltb (row_count l) (row_count l) (omega arith)))

  pub edition_of_lem : row_edition l (row_with l k) ≡ cond (has k (saved_keys theirs)) (edition_in theirs k) 0
  unfolding row_edition has_row
  edition_of_lem =
      test (has k (saved_keys theirs))
      (λ e. let (s, r) = there e in rw (e, g, lt-ltb (row_with l k) (row_count l) s) (r.said ∙ said-edition l b g k e))
      (λ n. let m = missing n in rw (n, g, m, le-ltb (row_count l) (row_count l) (omega arith)))

  pub asked_of : row_asked l (row_with l k) ≡ cond (has k (saved_keys theirs)) (plain 0) (plain 22)
  unfolding row_asked
  asked_of =
      test (has k (saved_keys theirs))
      (λ e. let (s, r) = there e in rw (e, g, lt-leb (row_count l) (row_with l k) s))
      (λ n. let m = missing n in rw (n, g, m, le-leb (row_count l) (row_count l) (omega arith)))
