-- Frame by frame, and edition by edition: what the loops of loading make of the words is what the messages and the editions make of them. Assumes nothing.
use Prim.Native.Nat.{ℕ, zero, suc, ◌+◌, ◌-◌, ◌*◌, ◌≤◌, ◌<◌}
use native.Mathlib.Omega.{arith}
use native.Mathlib.Nat.{not-suc-le-zero, mul-suc}
use native.Mathlib.Numerals.{add-one}
use mathlib.Core.Path.{◌≡◌, refl, sym, ap, ◌∙◌}
use mathlib.Core.Bool.{Bool, true, false, cond}
use mathlib.Core.List.{List, [], ◌∷◌, ◌++◌}
use borrow.Author.Tests.{eq-eqb, ne_eqb}
use lib.Dec.{eqb}
use Rattle.message.specs.declared.Key.{Key}
use Rattle.words.proofs.Tests.{never}
use Rattle.history.specs.History.{Event, Edition}
use Rattle.keyrow.specs.Row.{key_number}
use Rattle.edition.specs.Edition.{edited}
use Rattle.learned.specs.Events.{words_from}
use Rattle.learned.proofs.Frames.{frame-words}
use Rattle.learned.proofs.Histories.{words_append}
use Rattle.written.specs.Written.{id_of, with_key}
use Rattle.image.specs.Write.{row_size, behind}
use Rattle.image.specs.Read.{key_at, five_at, heard_at, body_events, count_at, row_events, row_count, form_of, told_by, edition_at, row_editions, events_of}
use Rattle.load.specs.Fed.{fed_one, fed_body, fed_rows, fed_frames, fed_editions, fed_all}

module _ (t l : List ℕ) where
  -- ---- turns of the loops, whose index is i of n

  pub body_turn : (key : Key) (p i n : ℕ) → i < n → fed_body t l key (p + 5 * i) (n - i) ≡ fed_body (fed_one t l key (p + 5 * i)) l key (p + 5 * (i + 1)) (n - (i + 1))
  unfolding fed_body
  body_turn key p i n h =
      let e : n - i ≡ suc (n - (i + 1)) = omega arith in
      let q : p + 5 * i + 5 ≡ p + 5 * (i + 1) = omega arith in
      rw e (ap (λ (x : ℕ). fed_body (fed_one t l key (p + 5 * i)) l key x (n - (i + 1))) q)

  pub body_done : (key : Key) (p n : ℕ) → n ≤ 0 → fed_body t l key p n ≡ t
  unfolding fed_body
  body_done key p zero h = refl
  body_done key p (suc n) h = absurd (not-suc-le-zero h)

  pub rows_turn : (w p i n : ℕ) → i < n
      → fed_rows w t l (2 + w * i) p (n - i) ≡ fed_rows w (fed_body t l (key_at l (2 + w * i)) p (count_at l p)) l (2 + w * (i + 1)) (p + 5 * count_at l p) (n - (i + 1))
  unfolding fed_rows
  rows_turn w p i n h =
      let e : n - i ≡ suc (n - (i + 1)) = omega arith in
      let q : 2 + w * i + w ≡ 2 + w * (i + 1) = rw add-one (omega (arith, mul-suc w i)) in
      rw e (ap (λ (x : ℕ). fed_rows w (fed_body t l (key_at l (2 + w * i)) p (count_at l p)) l x (p + 5 * count_at l p) (n - (i + 1))) q)

  pub rows-done : (w r p n : ℕ) → n ≤ 0 → fed_rows w t l r p n ≡ t
  unfolding fed_rows
  rows-done w r p zero h = refl
  rows-done w r p (suc n) h = absurd (not-suc-le-zero h)

  pub editions_turn : (i n : ℕ) → i < n
      → fed_editions t l (2 + 8 * i) (n - i) ≡ fed_editions (edited t (key_number (key_at l (2 + 8 * i))) (edition_at l (2 + 8 * i))).memory l (2 + 8 * (i + 1)) (n - (i + 1))
  unfolding fed_editions
  editions_turn i n h =
      let e : n - i ≡ suc (n - (i + 1)) = omega arith in
      let q : 2 + 8 * i + 8 ≡ 2 + 8 * (i + 1) = omega arith in
      rw e (ap (λ (x : ℕ). fed_editions (edited t (key_number (key_at l (2 + 8 * i))) (edition_at l (2 + 8 * i))).memory l x (n - (i + 1))) q)

  pub editions_done : (r n : ℕ) → n ≤ 0 → fed_editions t l r n ≡ t
  unfolding fed_editions
  editions_done r zero h = refl
  editions_done r (suc n) h = absurd (not-suc-le-zero h)

  -- ---- as messages

  one-fed : (key : Key) (p : ℕ) (h : List Event) → words_from t (heard_at l key p ++ h) ≡ fed_one (words_from t h) l key p
  one-fed key p h = words_append t (heard_at l key p) h ∙ sym (frame-words (words_from t h) (id_of key) 8 (with_key key.k (five_at l p)))

  body_fed : (key : Key) (n p : ℕ) (h : List Event) → words_from t (body_events l key p n h) ≡ fed_body (words_from t h) l key p n
  unfolding body_events fed_body
  body_fed key zero p h = refl
  body_fed key (suc n) p h = body_fed key n (p + 5) (heard_at l key p ++ h) ∙ ap (λ (x : List ℕ). fed_body x l key (p + 5) n) (one-fed key p h)

  rows-fed : (w n r p : ℕ) (h : List Event) → words_from t (row_events w l r p n h) ≡ fed_rows w (words_from t h) l r p n
  unfolding row_events fed_rows
  rows-fed w zero r p h = refl
  rows-fed w (suc n) r p h =
      rows-fed w n (r + w) (p + 5 * count_at l p) (body_events l (key_at l r) p (count_at l p) h)
      ∙ ap (λ (x : List ℕ). fed_rows w x l (r + w) (p + 5 * count_at l p) n) (body_fed (key_at l r) (count_at l p) p h)

  frames_fed : words_from t (told_by l) ≡ fed_frames t l
  unfolding told_by
  frames_fed = rows-fed (row_size (form_of l)) (row_count l) 2 (behind (form_of l) (row_count l)) []

  -- and as editions
  editions_fed : (n r : ℕ) (h : List Event) → words_from t (row_editions l r n h) ≡ fed_editions (words_from t h) l r n
  unfolding row_editions fed_editions
  editions_fed zero r h = refl
  editions_fed (suc n) r h = editions_fed n (r + 8) (Edition (key_at l r) (edition_at l r) ∷ h)

  -- all of an image
  pub all_fed_lem : fed_all t l ≡ words_from t (events_of l)
  unfolding events_of fed_all
  all_fed_lem = go (eqb (form_of l) 1)
    where
      go : (b : Bool) → cond b (fed_frames t l) (fed_editions (fed_frames t l) l 2 (row_count l)) ≡ words_from t (cond b (told_by l) (row_editions l 2 (row_count l) (told_by l)))
      go true = sym frames_fed
      go false = sym (editions_fed (row_count l) 2 (told_by l) ∙ ap (λ (x : List ℕ). fed_editions x l 2 (row_count l)) frames_fed)

  -- by the form
  by_form : (b : Bool) (u x y : List ℕ) → (b ≡ true → u ≡ x) → (b ≡ false → u ≡ y) → u ≡ cond b x y
  by_form true u x y f g = f refl
  by_form false u x y f g = g refl

  pub old_fed : form_of l ≡ 1 → (u : List ℕ) → u ≡ fed_frames t l → u ≡ fed_all t l
  unfolding fed_all
  old_fed f u e = by_form (eqb (form_of l) 1) u _ _ (λ y. e) (λ n. never (eq-eqb (form_of l) 1 f) n)

  pub new-fed : (form_of l ≡ 1 → ⊥) → (u v : List ℕ) → v ≡ fed_frames t l → u ≡ fed_editions v l 2 (row_count l) → u ≡ fed_all t l
  unfolding fed_all
  new-fed f u v e g =
      by_form (eqb (form_of l) 1) u _ _ (λ y. never y (ne_eqb (form_of l) 1 f)) (λ n. g ∙ ap (λ (x : List ℕ). fed_editions x l 2 (row_count l)) e)
