-- Reading a written image gives the messages of its keys back, and their editions. Assumes nothing.
use Prim.Native.Nat.{ℕ, zero, suc, ◌+◌, ◌*◌, ◌%◌, ◌≤◌, ◌<◌}
use native.Mathlib.Omega.{arith}
use native.Mathlib.Nat.{mod-eq_of_lt, mul-zero, mul-suc}
use mathlib.Core.Path.{◌≡◌, refl, sym, ap, ◌∙◌}
use mathlib.Core.Bool.{cond}
use mathlib.Core.Option.{Option}
use mathlib.Core.List.{List, [], ◌∷◌, ◌++◌, append_assoc}
use lib.Dec.{eqb}
use lib.ListN.{length, get_or, take, length-append, get_or-append}
use lib.Seq.{get_or-append-add, get_or-take}
use Rattle.words.proofs.Tests.{test}
use Rattle.message.specs.declared.Key.{Key}
use Rattle.message.specs.declared.Head.{Head}
use Rattle.message.specs.declared.Place.{Place}
use Rattle.message.specs.declared.Message.{Message}
use Rattle.message.specs.Message.{heard}
use Rattle.maps.specs.Maps.{Map, Nothing, Conflict, Held}
use Rattle.history.specs.History.{Event, Edition}
use Rattle.history.specs.Frames.{learns}
use Rattle.written.specs.Written.{id_of, flag, head_byte, five_of, data_of}
use Rattle.written.proofs.Written.{flag_rest}
use Rattle.image.specs.Write.{place_or, body_from, body_of, edition_byte, full_row, row_size, row_bytes, behind, rows_of, bodies_of, image_from}
use Rattle.image.specs.Read.{key_at, heard_at, body_events, count_at, row_events, form_of, told_by, edition_at, row_editions, events_of}

-- ---- the messages of a map, and what their frames say

abbrev pub message_at : Key → Head → (ℕ → Option Place) → ℕ → Message
message_at k h places p = record { key = k; head = h; position = p; place = place_or (places p) }

-- what the frame of a message says
abbrev pub said_by : Message → List Event
said_by m = learns (heard (id_of m.key) 8 (data_of m)).message

abbrev pub said_by_all : List Message → List Event
said_by_all [] = []
said_by_all (m ∷ ms) = said_by m ++ said_by_all ms

-- n messages from position p on, before which came others; the latest first
unfoldable pub body_messages : Key → Head → (ℕ → Option Place) → ℕ → ℕ → List Message → List Message
body_messages k h places p zero ms = ms
body_messages k h places p (suc n) ms = body_messages k h places (suc p) n (message_at k h places p ∷ ms)

abbrev pub map_messages : Key → Map → List Message → List Message
map_messages k Nothing ms = ms
map_messages k Conflict ms = ms
map_messages k (Held h places) ms = body_messages k h places 1 h.n ms

module _ (map : Key → Map) where
  unfoldable pub key_messages : List Key → List Message → List Message
  key_messages [] ms = ms
  key_messages (k ∷ ks) ms = key_messages ks (map_messages k (map k) ms)

-- ---- the places of a list that lies behind another

-- byte i of x in pre ++ x
pub at : (pre x : List ℕ) (p i : ℕ) → length pre ≡ p → get_or (pre ++ x) (p + i) 0 ≡ get_or x i 0
at pre x p i e = ap (λ (q : ℕ). get_or (pre ++ x) (q + i) 0) (sym e) ∙ get_or-append-add pre x i 0

-- the first one
at₀ : (pre x : List ℕ) (p : ℕ) → length pre ≡ p → get_or (pre ++ x) p 0 ≡ get_or x 0 0
at₀ pre x p e = let z : p ≡ p + 0 = omega arith in ap (λ (q : ℕ). get_or (pre ++ x) q 0) z ∙ at pre x p 0 e

-- ---- a body

heard-is : (k : Key) (h : Head) (places : ℕ → Option Place) (q : ℕ) (pre rest l : List ℕ) (p : ℕ) → length pre ≡ p → l ≡ pre ++ (five_of h q (place_or (places q)) ++ rest)
    → heard_at l k p ≡ said_by (message_at k h places q)
unfolding five_of
heard-is k h places q pre rest l p e f =
    let x = five_of h q (place_or (places q)) ++ rest in
    rw (f, at₀ pre x p e, at pre x p 1 e, at pre x p 2 e, at pre x p 3 e, at pre x p 4 e)

length_five : (h : Head) (p : ℕ) (x : Place) → length (five_of h p x) ≡ 5
unfolding five_of
length_five h p x = refl

body_is : (k : Key) (h : Head) (places : ℕ → Option Place) (l rest : List ℕ) (n q p : ℕ) (pre : List ℕ) (ms : List Message) → length pre ≡ p → l ≡ pre ++ (body_from h places q n ++ rest)
    → body_events l k p n (said_by_all ms) ≡ said_by_all (body_messages k h places q n ms)
unfolding body_from body_events body_messages
body_is k h places l rest zero q p pre ms e f = refl
body_is k h places l rest (suc n) q p pre ms e f =
    let five = five_of h q (place_or (places q)) in
    let g : l ≡ pre ++ (five ++ (body_from h places (suc q) n ++ rest)) = f ∙ simp append_assoc in
    ap (λ (es : List Event). body_events l k (p + 5) n (es ++ said_by_all ms)) (heard-is k h places q pre (body_from h places (suc q) n ++ rest) l p e g)
    ∙ body_is k h places l rest n (suc q) (p + 5) (pre ++ five) (message_at k h places q ∷ ms) (simp (length-append, length_five) (omega arith)) (g ∙ simp append_assoc)

pub length_body : (h : Head) (places : ℕ → Option Place) (p n : ℕ) → length (body_from h places p n) ≡ 5 * n
unfolding body_from
length_body h places p zero = refl
length_body h places p (suc n) = let ih = length_body h places (suc p) n in simp (length-append, length_five) (omega arith)

-- ---- a map that can be saved

-- it is held, and a frame can say how many positions it has
abbrev pub Told : Map → Type 0
Told Nothing = ⊥
Told Conflict = ⊥
Told (Held h places) = (1 ≤ h.n) × (h.n ≤ 31)

head_at : (h : Head) (places : ℕ → Option Place) (n : ℕ) (rest : List ℕ) → 1 ≤ n → get_or (body_from h places 1 n ++ rest) 3 0 ≡ head_byte h
unfolding body_from five_of
head_at h places zero rest u = absurd (omega arith)
head_at h places (suc n) rest u = refl

map_is : (k : Key) (M : Map) → Told M → (l pre rest : List ℕ) (p : ℕ) (ms : List Message) → length pre ≡ p → l ≡ pre ++ (body_of M ++ rest)
    → (5 * count_at l p ≡ length (body_of M)) × (body_events l k p (count_at l p) (said_by_all ms) ≡ said_by_all (map_messages k M ms))
map_is k Nothing u l pre rest p ms e f = absurd u
map_is k Conflict u l pre rest p ms e f = absurd u
map_is k (Held h places) u l pre rest p ms e f =
    let n₀ : h.n < 32 = omega (arith, u.1) in
    let b : count_at l p ≡ h.n =
    ap (λ (x : List ℕ). get_or x (p + 3) 0 % 32) f ∙ ap (λ (x : ℕ). x % 32) (at pre (body_of (Held h places) ++ rest) p 3 e ∙ head_at h places h.n rest u.0)
    ∙ ap (λ (x : ℕ). (flag h.proprietary * 128 + flag h.transport * 64 + x) % 32) (mod-eq_of_lt n₀) ∙ flag_rest h.proprietary h.transport h.n n₀ in (
      ap (λ (n : ℕ). 5 * n) b ∙ sym (length_body h places 1 h.n),
      ap (λ (n : ℕ). body_events l k p n (said_by_all ms)) b ∙ body_is k h places l rest h.n 1 p pre ms e f,
    )

-- ---- the rows

-- a row has so many bytes in a form, and its first seven in every form
pub length-row : (form : ℕ) (k : Key) (e p n : ℕ) → length (row_bytes form k e p n) ≡ row_size form
unfolding row_bytes full_row
length-row form k e p n = test (eqb form 1) (λ y. rw y) (λ f. rw f)

pub row-byte : (form : ℕ) (k : Key) (e p n : ℕ) (rest : List ℕ) (i : ℕ) → i < 7 → get_or (row_bytes form k e p n ++ rest) i 0 ≡ get_or (full_row k e p n) i 0
unfolding row_bytes
row-byte form k e p n rest i h =
    let w : 7 ≤ row_size form = test (eqb form 1) (λ y. rw y (omega arith)) (λ f. rw f (omega arith)) in
    get_or-append (take (row_size form) (full_row k e p n)) rest 0 i (omega (arith, row-long, w)) ∙ get_or-take (row_size form) (full_row k e p n) i 0 (omega arith)
  where
    row-long : length (take (row_size form) (full_row k e p n)) ≡ row_size form
    row-long = length-row form k e p n

-- in form 2 the eighth is the edition's
pub edition-byte : (k : Key) (e p n : ℕ) (rest : List ℕ) → get_or (row_bytes 2 k e p n ++ rest) 7 0 ≡ edition_byte e
unfolding row_bytes full_row
edition-byte k e p n rest = refl

module _ (form : ℕ) (k : Key) (e from len : ℕ) (l pre rest : List ℕ) (r : ℕ) (long : length pre ≡ r) (f : l ≡ pre ++ (row_bytes form k e from len ++ rest)) where
  -- byte i of a row that lies behind others
  pub byte-is : (i : ℕ) → i < 7 → get_or l (r + i) 0 ≡ get_or (full_row k e from len) i 0
  byte-is i h = ap (λ (x : List ℕ). get_or x (r + i) 0) f ∙ at pre (row_bytes form k e from len ++ rest) r i long ∙ row-byte form k e from len rest i h

  pub key-is : key_at l r ≡ k
  unfolding full_row
  key-is =
      let z : r ≡ r + 0 = omega arith in
      let a = ap (λ (q : ℕ). get_or l q 0) z ∙ byte-is 0 (omega arith) in
      let b = byte-is 1 (omega arith) in
      let c = byte-is 2 (omega arith) in
      λ i. record { source = a i; destination = b i; k = c i }

abbrev pub AllTold : (Key → Map) → List Key → Type 0
AllTold map [] = Unit {0}
AllTold map (k ∷ ks) = Told (map k) × AllTold map ks

-- an image is read in the form that it was written in
abbrev pub Form : ℕ → Type 0
Form form = cond (eqb form 1) 1 2 ≡ form

-- any bytes have one of the two
pub form_two : (l : List ℕ) → Form (form_of l)
form_two l = test (eqb (get_or l 0 0) 1) (λ y. rw y) (λ n. rw n)

module _ (form : ℕ) (edition : Key → ℕ) (map : Key → Map) where
  abbrev w : ℕ
  w = row_size form

  pub length-rows : (from : ℕ) (ks : List Key) → length (rows_of form edition map from ks) ≡ row_size form * length ks
  unfolding rows_of
  length-rows from [] = omega (arith, mul-zero w)
  length-rows from (k ∷ ks) =
      let ih = length-rows (from + length (body_of (map k))) ks in
      length-append (row_bytes form k (edition k) from (length (body_of (map k)))) (rows_of form edition map (from + length (body_of (map k))) ks)
      ∙ omega (arith, length-row form k (edition k) from (length (body_of (map k))), ih, mul-suc w (length ks))

  rows_is : (l : List ℕ) (ks : List Key) → AllTold map ks → (from r p : ℕ) (pre mid : List ℕ) (ms : List Message)
      → l ≡ pre ++ (rows_of form edition map from ks ++ (mid ++ bodies_of map ks)) → length pre ≡ r → p ≡ r + w * length ks + length mid
      → row_events w l r p (length ks) (said_by_all ms) ≡ said_by_all (key_messages map ks ms)
  unfolding rows_of bodies_of row_events key_messages
  rows_is l [] u from r p pre mid ms f e q = refl
  rows_is l (k ∷ ks) u from r p pre mid ms f e q =
      let n = length (body_of (map k)) in
      let row = row_bytes form k (edition k) from n in
      let rows = rows_of form edition map (from + n) ks in
      let a = length-row form k (edition k) from n in
      let b = length-rows (from + n) ks in
      let c = mul-suc w (length ks) in
      let g : l ≡ pre ++ (row ++ (rows ++ (mid ++ (body_of (map k) ++ bodies_of map ks)))) = f ∙ simp append_assoc in
      let g' : l ≡ (pre ++ (row ++ (rows ++ mid))) ++ (body_of (map k) ++ bodies_of map ks) = g ∙ simp append_assoc in
      let long : length (pre ++ (row ++ (rows ++ mid))) ≡ p = simp length-append (omega (arith, a, b, c, e, q)) in
      let (d, s) = map_is k (map k) u.0 l (pre ++ (row ++ (rows ++ mid))) (bodies_of map ks) p ms long g' in
      ap (λ (x : Key). row_events w l (r + w) (p + 5 * count_at l p) (length ks) (body_events l x p (count_at l p) (said_by_all ms)))
      (key-is form k (edition k) from n l pre (rows ++ (mid ++ (body_of (map k) ++ bodies_of map ks))) r e g)
      ∙ ap (λ (es : List Event). row_events w l (r + w) (p + 5 * count_at l p) (length ks) es) s
      ∙ ap (λ (m : ℕ). row_events w l (r + w) (p + m) (length ks) (said_by_all (map_messages k (map k) ms))) d
      ∙ (rows_is l ks u.1 (from + n) (r + w) (p + n) (pre ++ row) (mid ++ body_of (map k)) (map_messages k (map k) ms)
      (g ∙ simp append_assoc) (simp length-append (omega (arith, a, e))) (simp length-append (omega (arith, c, q))))

  -- an image that is written stands for the messages of its keys, as their frames say them
  pub parsed : Form form → (ks : List Key) → AllTold map ks → told_by (image_from form edition map ks) ≡ said_by_all (key_messages map ks [])
  unfolding told_by image_from
  parsed is ks u =
      rw is
      (rows_is (image_from form edition map ks) ks u (behind form (length ks)) 2 (behind form (length ks)) (form ∷ length ks ∷ []) [] [] refl refl (omega arith))

-- ---- the editions of form 2

-- keys given an edition each, after what came before; the latest first
unfoldable pub edited_all : (Key → ℕ) → List Key → List Event → List Event
edited_all edition [] h = h
edited_all edition (k ∷ ks) h = edited_all edition ks (Edition k (edition k) ∷ h)

-- what the byte says is the edition
pub edition-is : (l : List ℕ) (k : Key) (e from len : ℕ) (pre rest : List ℕ) (r : ℕ) → length pre ≡ r → l ≡ pre ++ (row_bytes 2 k e from len ++ rest) → cond (eqb e 2004) 2004 2010 ≡ e → edition_at l r ≡ e
edition-is l k e from len pre rest r long f two =
    ap (λ (x : List ℕ). cond (eqb (get_or x (r + 7) 0) 1) 2004 2010) f
    ∙ ap (λ (x : ℕ). cond (eqb x 1) 2004 2010) (at pre (row_bytes 2 k e from len ++ rest) r 7 long ∙ edition-byte k e from len rest) ∙ read_back ∙ two
  where
    read_back : ◌≡◌ {A = ℕ} (cond (eqb (edition_byte e) 1) 2004 2010) (cond (eqb e 2004) 2004 2010)
    read_back = test (eqb e 2004) (λ y. rw y) (λ n. rw n)

module _ (edition : Key → ℕ) (two : (k : Key) → cond (eqb (edition k) 2004) 2004 2010 ≡ edition k) (map : Key → Map) where
  editions_is : (l : List ℕ) (ks : List Key) (from r : ℕ) (pre rest : List ℕ) → l ≡ pre ++ (rows_of 2 edition map from ks ++ rest) → length pre ≡ r
      → (h : List Event) → row_editions l r (length ks) h ≡ edited_all edition ks h
  unfolding rows_of row_editions edited_all
  editions_is l [] from r pre rest f e h = refl
  editions_is l (k ∷ ks) from r pre rest f e h =
      let n = length (body_of (map k)) in
      let row = row_bytes 2 k (edition k) from n in
      let g : l ≡ pre ++ (row ++ (rows_of 2 edition map (from + n) ks ++ rest)) = f ∙ simp append_assoc in
      let tail = rows_of 2 edition map (from + n) ks ++ rest in
      let q = edition-is l k (edition k) from n pre tail r e g (two k) in
      (λ i. row_editions l (r + 8) (length ks) (Edition (key-is 2 k (edition k) from n l pre tail r e g i) (q i) ∷ h))
      ∙ editions_is l ks (from + n) (r + 8) (pre ++ row) rest (g ∙ simp append_assoc) (simp length-append (omega (arith, length-row 2 k (edition k) from n, e))) (Edition k (edition k) ∷ h)

  -- an image of form 2 stands for the messages of its keys, and for their editions
  pub parsed_editions : (ks : List Key) → AllTold map ks → events_of (image_from 2 edition map ks) ≡ edited_all edition ks (said_by_all (key_messages map ks []))
  unfolding events_of image_from
  parsed_editions ks u =
      editions_is (image_from 2 edition map ks) ks (behind 2 (length ks)) 2 (2 ∷ length ks ∷ []) (bodies_of map ks) refl refl (told_by (image_from 2 edition map ks))
      ∙ ap (edited_all edition ks) (parsed 2 edition map refl ks u)
