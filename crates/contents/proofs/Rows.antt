-- What asking promises, from its parts. Assumes nothing.
use Prim.Native.Nat.{ℕ, ◌+◌, ◌*◌, ◌-◌, ◌≤◌, ◌<◌}
use native.Mathlib.Omega.{arith}
use mathlib.Core.Path.{◌≡◌, refl, sym, ap, ◌∙◌}
use mathlib.Core.Bool.{Bool, true, false, cond, ◌&&◌}
use mathlib.Core.List.{List, []}
use borrow.Author.Tests.{lt-ltb, le-ltb, le-leb, lt-leb, leb-true, leb-false}
use lib.Dec.{eqb, leb}
use lib.ListN.{length, get_or, take, drop, length-take, length-drop}
use denote.Ref.{Bor}
use Rattle.words.proofs.Tests.{test}
use Rattle.answers.specs.Answers.{Said, plain}
use Rattle.message.specs.declared.Key.{Key}
use Rattle.maps.specs.Maps.{same_key}
use Rattle.keyrow.specs.Row.{key_of}
use Rattle.image.specs.Write.{behind}
use Rattle.image.specs.Read.{key_at, row_count, form_of, edition_at, good}
use Rattle.image.specs.Part.{row_place, off_at, len_at, row_asked, has_row, row_key, row_edition, row_body, row_offset, row_next, Entry, row_entry}
use Rattle.image.proofs.Part.{row_inside}
use Rattle.contents.specs.declared.Listed.{Listed}
use Rattle.contents.specs.Rows.{entry_in, no_entry}

module _ (l : List ℕ) (i : ℕ) where
  pub asked_21 : (a : Said) → a ≡ plain 21 → good l ≡ false → a ≡ row_asked l i
  unfolding row_asked
  asked_21 a e g = rw (e, g)

  pub asked_22 : (a : Said) → a ≡ plain 22 → good l ≡ true → row_count l ≤ i → a ≡ row_asked l i
  unfolding row_asked
  asked_22 a e g h = rw (e, g, le-leb (row_count l) i h)

  pub asked_0 : (a : Said) → a ≡ plain 0 → good l ≡ true → i < row_count l → a ≡ row_asked l i
  unfolding row_asked
  asked_0 a e g h = rw (e, g, lt-leb (row_count l) i h)

  module _ (h : has_row l i ≡ true) where
    pub key_there : key_at l (row_place l i) ≡ row_key l i
    unfolding row_key
    key_there = rw h

    pub body_there : take (len_at l (row_place l i)) (drop (off_at l (row_place l i)) l) ≡ row_body l i
    unfolding row_body
    body_there = rw h

    pub off_there : off_at l (row_place l i) ≡ row_offset l i
    unfolding row_offset
    off_there = rw h

    pub edition_there : cond (eqb (form_of l) 1) 2010 (edition_at l (row_place l i)) ≡ row_edition l i
    unfolding row_edition
    edition_there = rw h

    pub next_there : i + 1 ≡ row_next l i
    unfolding row_next
    next_there = rw h

  module _ (h : has_row l i ≡ false) where
    pub key-not : key_of 0 0 0 ≡ row_key l i
    unfolding row_key
    key-not = rw h

    pub part_not : [] ≡ row_body l i
    unfolding row_body
    part_not = rw h

    pub off-not : 0 ≡ row_offset l i
    unfolding row_offset
    off-not = rw h

    pub edition-not : 0 ≡ row_edition l i
    unfolding row_edition
    edition-not = rw h

    pub next-not : i ≡ row_next l i
    unfolding row_next
    next-not = rw h

-- ---- all of a row in numbers

module _ (l : List ℕ) (i : ℕ) where
  -- 0 is answered exactly where the row is there
  asked_there : (row_asked l i).number ≡ 0 → has_row l i ≡ true
  unfolding row_asked has_row
  asked_there e =
      test (good l)
      (λ g. test (leb (row_count l) i)
      (λ y. let z : ◌≡◌ {A = ℕ} 22 0 = rw (g, y) at e in absurd (omega (arith, z))) (λ n. rw g (lt-ltb i (row_count l) (leb-false (row_count l) i n))))
      (λ g. let z : ◌≡◌ {A = ℕ} 21 0 = rw g at e in absurd (omega (arith, z)))

  asked-not : ((row_asked l i).number ≡ 0 → ⊥) → has_row l i ≡ false
  unfolding row_asked has_row
  asked-not n =
      test (good l)
      (λ g. test (leb (row_count l) i) (λ y. rw g (le-ltb i (row_count l) (leb-true (row_count l) i y))) (λ f. absurd (n (rw (g, f)))))
      (λ g. rw g)

  -- by what a call answered
  pub answered_there : (a : Said) → a ≡ row_asked l i → a.number ≡ 0 → has_row l i ≡ true
  answered_there a e z = asked_there (sym (ap (λ (s : Said). s.number) e) ∙ z)

  pub answered-not : (a : Said) → a ≡ row_asked l i → (a.number ≡ 0 → ⊥) → has_row l i ≡ false
  answered-not a e n = asked-not (λ z. n (ap (λ (s : Said). s.number) e ∙ z))

  -- how long the body of a row is that is there
  size_there : has_row l i ≡ true → len_at l (row_place l i) ≡ length (row_body l i)
  size_there h = sym (ap length (sym (body_there l i h)) ∙ simp (length-take, length-drop) (omega (arith, (row_inside l i h).1)))

  pub entry_there : (a : Said) (k : Key) (from size edition : ℕ) → a ≡ row_asked l i → has_row l i ≡ true → k ≡ key_at l (row_place l i) → from ≡ off_at l (row_place l i) → size ≡ len_at l (row_place l i)
      → edition ≡ cond (eqb (form_of l) 1) 2010 (edition_at l (row_place l i)) → record { answer = a; key = k; offset = from; size = size; edition = edition } ≡ row_entry l i
  entry_there a k from size edition e h f g s w =
      λ j. record { answer = e j; key = (f ∙ key_there l i h) j; offset = (g ∙ off_there l i h) j; size = (s ∙ size_there h) j; edition = (w ∙ edition_there l i h) j }

  pub entry_not : (a : Said) → a ≡ row_asked l i → (a.number ≡ 0 → ⊥) → no_entry a ≡ row_entry l i
  entry_not a e z =
      let n = answered-not a e z in
      λ j. record { answer = e j; key = key-not l i n j; offset = off-not l i n j; size = length (part_not l i n j); edition = edition-not l i n j }

  -- ---- the body as a part

  -- it lies inside the image, also on a refusal
  part_inside : row_offset l i + length (row_body l i) ≤ length l
  part_inside =
      test (has_row l i) (λ h. omega (arith, off_there l i h, size_there h, (row_inside l i h).1))
      (λ n. omega (arith, off-not l i n, ap length (part_not l i n)))

  part_is : (from size : ℕ) → from ≡ row_offset l i → size ≡ length (row_body l i) → take (from + size - from) (drop from l) ≡ row_body l i
  part_is from size e f =
      let d : from + size - from ≡ size = omega arith in
      (λ j. take ((d ∙ f) j) (drop (e j) l))
      ∙ test (has_row l i) (λ h. (λ j. take (sym (size_there h) j) (drop (sym (off_there l i h) j) l)) ∙ body_there l i h)
      (λ n. let z = sym (part_not l i n) in (λ j. take (length (z j)) (drop (row_offset l i) l)) ∙ part_not l i n)

  -- as all that the row says has it
  pub told_inside : (x : Listed) → entry_in x ≡ row_entry l i → x.offset + x.size ≤ length l
  told_inside x e = omega (arith, ap (λ (y : Entry). y.offset) e, ap (λ (y : Entry). y.size) e, part_inside)

  pub told_part : (x : Listed) → entry_in x ≡ row_entry l i → take (x.offset + x.size - x.offset) (drop x.offset l) ≡ row_body l i
  told_part x e = part_is x.offset x.size (ap (λ (y : Entry). y.offset) e) (ap (λ (y : Entry). y.size) e)

-- a number of two bytes of a row
module _ (l : List ℕ) (p w : ℕ) where
  pub off-word : w ≡ get_or l (p + 3) 0 + get_or l (p + 3 + 1) 0 * 256 → w ≡ off_at l p
  off-word e = let z : p + 3 + 1 ≡ p + 4 = omega arith in e ∙ ap (λ (q : ℕ). get_or l (p + 3) 0 + get_or l q 0 * 256) z

  pub len_word : w ≡ get_or l (p + 5) 0 + get_or l (p + 5 + 1) 0 * 256 → w ≡ len_at l p
  len_word e = let z : p + 5 + 1 ≡ p + 6 = omega arith in e ∙ ap (λ (q : ℕ). get_or l (p + 5) 0 + get_or l q 0 * 256) z

-- where a part lies
pub lies_at : (s : Bor (List ℕ)) {w v : ℕ} → w ≡ v → ◌≡◌ {A = ℕ × ℕ} (s.ref_ptr.0, w + s.ref_ptr.1) (s.ref_ptr.0, v + s.ref_ptr.1)
lies_at s e = λ i. (s.ref_ptr.0, e i + s.ref_ptr.1)

pub same_key_lem : (a b : Key) → (eqb a.source b.source && (eqb a.destination b.destination && eqb a.k b.k)) ≡ same_key a b
unfolding same_key
same_key_lem a b = refl

-- the row at an index has a key where a look at its place says so
pub seen : (l : List ℕ) (i form : ℕ) → form ≡ form_of l → (r : ℕ) → r ≡ behind form i → (k : Key) (b : Bool) → b ≡ same_key (key_at l r) k → same_key (key_at l (row_place l i)) k ≡ b
seen l i form f r q k b e = sym (e ∙ ap (λ (x : ℕ). same_key (key_at l x) k) (q ∙ ap (λ (x : ℕ). behind x i) f))
