-- What checking and loading promise, from their parts. Assumes nothing.
use Prim.Native.Nat.{ℕ, suc, ◌+◌, ◌≤◌, ◌<◌}
use native.Mathlib.Omega.{arith}
use mathlib.Core.Path.{◌≡◌, sym, ap, ◌∙◌}
use mathlib.Core.Bool.{true, false}
use mathlib.Core.Option.{none, some}
use mathlib.Core.List.{List, [], ◌∷◌}
use lib.ListN.{length, get_or, take, drop, replicate, length-replicate}
use lib.Seq.{take_at}
use Rattle.answers.specs.Answers.{Said, outcome, plain}
use Rattle.splice.specs.Splice.{splice, laid}
use Rattle.splice.proofs.Laws.{laid-is, length-splice}
use Rattle.message.specs.declared.Key.{Key}
use Rattle.record.specs.Record.{Bytes}
use Rattle.lookup.specs.Next.{first_key, walk}
use Rattle.table.specs.Learn.{empty_table}
use Rattle.learned.specs.Events.{words_by}
use Rattle.image.specs.Write.{image_in}
use Rattle.image.specs.Read.{form_of, events_of, same, good, loaded}
use Rattle.image.proofs.Again.{events-taught}
use Rattle.image.proofs.Lengths.{most-long}
use Rattle.load.specs.Fed.{fed_all}
use Rattle.load.proofs.Fed.{all_fed_lem}

-- ---- checking

-- the front of a page that a list was laid into
front : (x page later : List ℕ) (n : ℕ) → n ≡ length x → length x ≤ length page → later ≡ laid page 0 x → take n later ≡ x
front x page later n f room g =
    let q : later ≡ splice page 0 x = g ∙ sym (laid-is page 0 x (omega arith)).1 in
    ap (take n) q ∙ take_at x (drop (0 + length x) page) n (sym f)

-- which is as long as before
as_long : (x page later : List ℕ) → length x ≤ length page → later ≡ laid page 0 x → length later ≡ length page
as_long x page later room g = ap length (g ∙ sym (laid-is page 0 x (omega arith)).1) ∙ length-splice page 0 x (omega arith)

-- the elements of a slice are bytes
all_bytes : (l : List ℕ) → ((i : ℕ) → get_or l i 0 < 256) → Bytes l
all_bytes [] f = tt
all_bytes (x ∷ l) f = (f 0, all_bytes l (λ i. f (suc i)))

-- the page before anything is laid into it
abbrev pub blank : List ℕ
blank = replicate 2610 0

blank_long : length blank ≡ 2610
blank_long = length-replicate {A = ℕ} 2610 0

-- the scratch table is that of what the image stands for
module _ (l t : List ℕ) (e : t ≡ fed_all (replicate 1072 0) l) where
  scratch : t ≡ words_by (events_of l)
  unfolding empty_table
  scratch = e ∙ all_fed_lem empty_table l

  -- so its image has room in the page
  module _ (b : (i : ℕ) → get_or l i 0 < 256) (form n : ℕ) (later : List ℕ) (its : form ≡ form_of l) (f : n ≡ length (image_in form t)) where
    room : n ≤ 2610
    room = omega (arith, f, ap (λ (x : List ℕ). length (image_in form x)) scratch, most-long form (events_of l) (events-taught l (all_bytes l b)))

    module _ (g : later ≡ laid blank 0 (image_in form t)) where
      pub in_page : n ≤ length later
      in_page = omega (arith, room, as_long (image_in form t) blank later (omega (arith, f, room, blank_long)) g, blank_long)

      -- and is compared
      pub checked : same (take n later) l ≡ good l
      unfolding good
      checked =
          let r : length (image_in form t) ≤ length blank = omega (arith, f, room, blank_long) in
          ap (λ (x : List ℕ). same x l) (front (image_in form t) blank later n f r g ∙ (λ i. image_in (its i) (scratch i)))

-- ---- loading

module _ (t l : List ℕ) (a : Said) where
  pub load_21 : a ≡ plain 21 → good l ≡ false → outcome a t ≡ loaded t l
  unfolding loaded
  load_21 e f = rw (e, f)

  pub load_23 : (k : Key) → a ≡ plain 23 → good l ≡ true → first_key t ≡ some k → outcome a t ≡ loaded t l
  unfolding loaded walk
  load_23 k e f g = rw (e, f, g)

  pub load_0 : (later : List ℕ) → a ≡ plain 0 → good l ≡ true → first_key t ≡ none → later ≡ fed_all t l → outcome a later ≡ loaded t l
  unfolding loaded walk
  load_0 later e f g h = rw (e, f, g, h, all_fed_lem t l)
