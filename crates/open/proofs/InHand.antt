-- What an opened map tells: of a usable one the lists are the map's own, and its n is at most 64. Assumes nothing.
use Prim.Native.Nat.{ℕ, suc, ◌≤◌, ◌<◌}
use mathlib.Core.Path.{◌≡◌, refl, sym, ap, ◌∙◌}
use mathlib.Core.Bool.{Bool, true, false, cond, true≢false}
use mathlib.Core.List.{List}
use mathlib.Core.Option.{Option, none, some}
use lib.Dec.{eqb, ltb}
use lib.ListN.{length, get_or, take, drop, length-append, length-drop, get_or-append}
use lib.Seq.{take_at}
use native.Mathlib.Nat.{min-eq_left, min-le_right}
use native.Mathlib.Decide.{dec_lt}
use native.Mathlib.Omega.{arith}
use borrow.Author.Tests.{le-leb, lt-leb, lt-ltb, le-ltb}
use Rattle.answers.specs.Answers.{Judged, Said, at, plain, judged}
use Rattle.words.specs.Lists.{tabulate}
use Rattle.words.proofs.Lists.{length-tabulate, get_tabulate, tabulate_equal}
use Rattle.words.proofs.Tests.{test}
use Rattle.message.specs.declared.Key.{Key}
use Rattle.maps.specs.Maps.{Map, Nothing, Conflict}
use Rattle.judge.specs.Judge.{Param, is_none, spn_in, start_in, width_in, width_at, judge, usable, count_of, params_of, starts_of, widths_of}
use Rattle.judge.proofs.Judged.{usable_sound}
use Rattle.history.specs.History.{most_keys}
use Rattle.keyrow.specs.Row.{positions, key_number, state_word, form_word}
use Rattle.lookup.specs.Layout.{table_words, row_of, slot_of}
use Rattle.lookup.proofs.Words.{row-length}
use Rattle.open.specs.Open.{is_held, judged_by, map_as, width_row, width_for, marked_width, reach, listed, Opening, opened_in, opened_by}
use Rattle.open.specs.declared.Opened.{Opened}
use Rattle.answers.proofs.Cases.{same_case, same_answer}
use Rattle.open.specs.Unfolded.{unfolded, unfolded_in}
use Rattle.open.proofs.Unfolded.{row-held, by_state}
use Rattle.keyrow.specs.View.{head_of, row_map, row_as}
use Rattle.lookup.specs.View.{map_in, row_for}

-- ---- opening a row, and a key

-- a held map's judgement is judging's answer
pub judge-held : (width_of : ℕ → ℕ) (m : Map) → is_held m ≡ true → judged (judge width_of m) ≡ judged_by width_of m
unfolding judged_by
judge-held width_of m h = rw h

pub opened-row : (row spns₀ starts₀ widths₀ spns starts widths : List ℕ) (a : Said) (w j : Judged) (n : ℕ) (p t : Bool) → a ≡ judged j → w ≡ judge (width_row row) (row_as row)
    → j ≡ cond (eqb (state_word row) 1) w (at 1 0) → n ≡ (head_of (form_word row)).n → p ≡ (head_of (form_word row)).proprietary → t ≡ (head_of (form_word row)).transport
    → spns ≡ unfolded_in spn_in row spns₀ → starts ≡ unfolded_in start_in row starts₀ → widths ≡ unfolded_in marked_width row widths₀
    → record { answer = a; was = w; n = n; proprietary = p; transport = t; spns = spns; starts = starts; widths = widths }
    ≡ opened_by (width_row row) (row_map row) (row_as row) spns₀ starts₀ widths₀
unfolding opened_by unfolded
opened-row row spns₀ starts₀ widths₀ spns starts widths a w j n p t ea e ej en ep et es ess ew =
    let q : a ≡ judged_by (width_row row) (row_map row) = ea ∙ ap judged (by_state row w j e ej) ∙ judge-held (width_row row) (row_map row) (row-held row) in
    λ i. record { answer = q i; was = e i; n = en i; proprietary = ep i; transport = et i; spns = es i; starts = ess i; widths = ew i }

pub opened_none : (width_of : ℕ → ℕ) (m w : Map) (spns starts widths : List ℕ) (a : Said) → m ≡ Nothing → w ≡ Nothing → a ≡ plain 11
    → record { answer = a; was = at 0 0; n = 0; proprietary = false; transport = false; spns = spns; starts = starts; widths = widths } ≡ opened_by width_of m w spns starts widths
unfolding opened_by judged_by tabulate
opened_none width_of m w spns starts widths a em ew ea = rw (em, ew, ea)

-- the map as the key's row has it, by the row
module _ (t : List ℕ) (k : Key) (long : length t ≡ table_words) (row : List ℕ) (its : row ≡ row_for t k) where
  pub no_map_as : length row ≡ 0 → map_as t k ≡ Nothing
  unfolding row_for map_as
  no_map_as e =
      elim (dec_lt (slot_of t (key_number k)) most_keys) [
        | yes l ↦ let z : length (row_of t (slot_of t (key_number k))) ≡ 0 = rw (its, lt-ltb (slot_of t (key_number k)) most_keys l) at e in
            absurd (omega (arith, z, row-length t long (slot_of t (key_number k)) l))
        | no l ↦ rw (le-ltb (slot_of t (key_number k)) most_keys (omega arith))
      ]

  pub its_map_as : (length row ≡ 0 → ⊥) → map_as t k ≡ row_as row
  unfolding row_for map_as
  its_map_as n =
      elim (dec_lt (slot_of t (key_number k)) most_keys) [
        | yes l ↦ rw (its, lt-ltb (slot_of t (key_number k)) most_keys l)
        | no l ↦ absurd (n (rw (its, le-ltb (slot_of t (key_number k)) most_keys (omega arith))))
      ]

-- ---- a usable map is no conflict: read as if it were held, it is the same

pub row-usable : (width_of : ℕ → ℕ) (row : List ℕ) → usable width_of (row_map row) ≡ true → row_as row ≡ row_map row
unfolding row_map
row-usable width_of row = go (eqb (state_word row) 1)
  where
    go : (b : Bool) → usable width_of (cond b (row_as row) Conflict) ≡ true → row_as row ≡ cond b (row_as row) Conflict
    go true u = refl
    go false u = absurd (true≢false (sym u))

pub as_usable : (width_of : ℕ → ℕ) (t : List ℕ) (k : Key) → usable width_of (map_in t k) ≡ true → map_as t k ≡ map_in t k
unfolding map_as map_in
as_usable width_of t k =
    test (ltb (slot_of t (key_number k)) most_keys) (λ h. rw h (row-usable width_of (row_of t (slot_of t (key_number k))))) (λ n. rw n (λ u. refl))

-- ---- no row has more than 64 positions

-- nothing stands past the 64th
abbrev Short : (ℕ → ℕ) → Map → Type 0
Short width_of m = (i : ℕ) → positions ≤ i → is_none (params_of width_of m (suc i)) ≡ true

row-short : (width_of : ℕ → ℕ) (row : List ℕ) → Short width_of (row_as row)
row-short width_of row i l = rw (le-leb 1 (suc i) (omega arith), lt-leb (suc i) positions (omega arith))

key-short : (width_of : ℕ → ℕ) (t : List ℕ) (k : Key) → Short width_of (map_as t k)
unfolding map_as
key-short width_of t k =
    test (ltb (slot_of t (key_number k)) most_keys) (λ h. rw h (row-short width_of (row_of t (slot_of t (key_number k))))) (λ n. rw n (λ i l. refl))

pub usable_few : (width_of : ℕ → ℕ) (t : List ℕ) (k : Key) → usable width_of (map_in t k) ≡ true → count_of (map_in t k) ≤ positions
usable_few width_of t k u =
    elim (dec_lt positions (count_of (map_in t k))) [
      | yes l ↦ absurd (true≢false (sym (ap (λ (m : Map). is_none (params_of width_of m (suc positions))) (sym (as_usable width_of t k u)) ∙ key-short width_of t k positions (omega arith))
          ∙ (usable_sound width_of (map_in t k) u).present positions l))
      | no l ↦ omega arith
    ]

-- ---- the lists of a usable map

-- a parameter that is there has its width unmarked
unmarked : (x : Option Param) → is_none x ≡ false → marked_width x ≡ width_in x
unmarked none e = absurd (true≢false e)
unmarked (some y) e = refl

module _ (width_of : ℕ → ℕ) (m : Map) (few : count_of m ≤ positions) where
  all : reach (count_of m) ≡ count_of m
  all = min-eq_left few

  first-listed : (f : Option Param → ℕ) (held : List ℕ) → take (count_of m) (listed f width_of m held) ≡ tabulate (λ i. f (params_of width_of m (suc i))) (count_of m)
  first-listed f held = rw all (take_at _ _ (count_of m) (length-tabulate _ (count_of m)))

  pub listed_at : (f : Option Param → ℕ) (held : List ℕ) (i : ℕ) → i < count_of m → get_or (listed f width_of m held) i 0 ≡ f (params_of width_of m (suc i))
  listed_at f held i l =
      rw all (get_or-append (tabulate _ (count_of m)) (drop (count_of m) held) 0 i (rw length-tabulate l) ∙ get_tabulate _ (count_of m) i l)

  pub listed-starts : (held : List ℕ) → take (count_of m) (listed start_in width_of m held) ≡ starts_of width_of m
  listed-starts held = first-listed start_in held

  module _ (u : usable width_of m ≡ true) where
    there : (i : ℕ) → i < count_of m → is_none (params_of width_of m (suc i)) ≡ false
    there = (usable_sound width_of m u).present

    pub listed-widths : (held : List ℕ) → take (count_of m) (listed marked_width width_of m held) ≡ widths_of width_of m
    listed-widths held = first-listed marked_width held ∙ tabulate_equal _ (width_at (params_of width_of m)) (count_of m) (λ i l. unmarked (params_of width_of m (suc i)) (there i l))

    pub listed-width : (held : List ℕ) (i : ℕ) → i < count_of m → get_or (listed marked_width width_of m held) i 0 ≡ width_in (params_of width_of m (suc i))
    listed-width held i l = listed_at marked_width held i l ∙ unmarked (params_of width_of m (suc i)) (there i l)

-- one opening in numbers, one value of the code's struct
pub same-opened : (o p : Opened) (a b c d e f : List ℕ) → opened_in o a b c ≡ opened_in p d e f → o ≡ p
same-opened o p a b c d e f q =
    let x = same_answer o.answer p.answer (ap (λ (y : Opening). y.answer) q) in
    let w = same_case o.was p.was (ap (λ (y : Opening). y.was) q) in
    λ i. record { answer = x i; was = w i; n = (q i).n; proprietary = (q i).proprietary; transport = (q i).transport }

-- ---- what `open` gave

listed-long : (f : Option Param → ℕ) (width_of : ℕ → ℕ) (m : Map) (held : List ℕ) → length held ≡ positions → length (listed f width_of m held) ≡ positions
listed-long f width_of m held h = simp (length-append, length-tabulate, length-drop) (omega (arith, h, min-le_right (count_of m) positions))

module _ (t : List ℕ) (k : Key) (o : Opening) (spns starts widths : List ℕ) (e : o ≡ opened_by (width_for t k) (map_in t k) (map_as t k) spns starts widths) where
  pub answer-is : o.answer ≡ judged_by (width_for t k) (map_in t k)
  unfolding opened_by
  answer-is = ap (λ (x : Opening). x.answer) e

  -- the judgement of what the key's row holds
  pub was-is : o.was ≡ judge (width_for t k) (map_as t k)
  unfolding opened_by
  was-is = ap (λ (x : Opening). x.was) e

  -- the lists keep their lengths
  pub starts-long : length starts ≡ positions → length o.starts ≡ positions
  unfolding opened_by
  starts-long h = ap (λ (x : Opening). length x.starts) e ∙ listed-long start_in (width_for t k) (map_as t k) starts h

  pub widths-long : length widths ≡ positions → length o.widths ≡ positions
  unfolding opened_by
  widths-long h = ap (λ (x : Opening). length x.widths) e ∙ listed-long marked_width (width_for t k) (map_as t k) widths h

  -- of a key whose map is usable
  module _ (u : usable (width_for t k) (map_in t k) ≡ true) where
    its : map_as t k ≡ map_in t k
    its = as_usable (width_for t k) t k u

    few : count_of (map_in t k) ≤ positions
    few = usable_few (width_for t k) t k u

    pub n-is : o.n ≡ count_of (map_in t k)
    unfolding opened_by
    n-is = ap (λ (x : Opening). x.n) e ∙ ap count_of its

    pub n_few : o.n ≤ positions
    n_few = rw n-is few

    spns-listed : o.spns ≡ listed spn_in (width_for t k) (map_in t k) spns
    unfolding opened_by
    spns-listed = ap (λ (x : Opening). x.spns) e ∙ ap (λ (m : Map). listed spn_in (width_for t k) m spns) its

    starts-listed : o.starts ≡ listed start_in (width_for t k) (map_in t k) starts
    unfolding opened_by
    starts-listed = ap (λ (x : Opening). x.starts) e ∙ ap (λ (m : Map). listed start_in (width_for t k) m starts) its

    widths-listed : o.widths ≡ listed marked_width (width_for t k) (map_in t k) widths
    unfolding opened_by
    widths-listed = ap (λ (x : Opening). x.widths) e ∙ ap (λ (m : Map). listed marked_width (width_for t k) m widths) its

    pub starts_are : take o.n o.starts ≡ starts_of (width_for t k) (map_in t k)
    starts_are = rw (n-is, starts-listed) (listed-starts (width_for t k) (map_in t k) few starts)

    pub widths_are : take o.n o.widths ≡ widths_of (width_for t k) (map_in t k)
    widths_are = rw (n-is, widths-listed) (listed-widths (width_for t k) (map_in t k) few u widths)

    module _ (i : ℕ) (l : i < count_of (map_in t k)) where
      pub spn-at : get_or o.spns i 0 ≡ spn_in (params_of (width_for t k) (map_in t k) (suc i))
      spn-at = rw spns-listed (listed_at (width_for t k) (map_in t k) few spn_in spns i l)

      pub start-at : get_or o.starts i 0 ≡ start_in (params_of (width_for t k) (map_in t k) (suc i))
      start-at = rw starts-listed (listed_at (width_for t k) (map_in t k) few start_in starts i l)

      pub width-at : get_or o.widths i 0 ≡ width_in (params_of (width_for t k) (map_in t k) (suc i))
      width-at = rw widths-listed (listed-width (width_for t k) (map_in t k) few u widths i l)
