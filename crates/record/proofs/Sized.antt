-- Cutting a log into records of any size, whatever the step: one record more, too few bytes for a record, a log that comes in two parts, and chunks that end anywhere.
-- Assumes nothing.
use Prim.Native.Nat.{ℕ, zero, suc, ◌+◌, ◌*◌, ◌-◌, ◌/◌, ◌%◌, ◌≤◌, ◌<◌}
use mathlib.Core.Path.{◌≡◌, refl, sym, ap, ap₂, subst, ◌∙◌}
use mathlib.Core.List.{List, [], ◌++◌, append_assoc, append-nil}
use native.Mathlib.Omega.{arith}
use native.Mathlib.Nat.{not-suc-le-zero, le_of_suc-le-suc, suc-mul, mod-lt, div-add-mod', div-eq_of_lt, add-div_left}
use native.Mathlib.Numerals.{add-one}
use native.Mathlib.Decide.{dec_lt}
use borrow.Author.Tests.{lt-ltb, le-ltb}
use lib.ListN.{length, get_or, take, drop, replicate, length-append, length-take, length-drop, length-replicate, take-append-drop}
use lib.Seq.{take_at, take_all, drop-append-add, drop-drop, length-take-le}
use Rattle.std.specs.Simd.{first_chunks}
use Rattle.splice.proofs.Laws.{covered_same, covered-full}
use Rattle.record.specs.Sized.{whole_by, record_by, left_by, over_to_by, over_by, held_by, carried_by, padded_by, taken_by}

-- the library cuts a list into the same records
pub chunk-is : (z k : ℕ) (l : List ℕ) (i : ℕ) (d : List ℕ) → i < k → get_or (first_chunks z k l) i d ≡ record_by z l i
unfolding record_by
chunk-is z zero l i d h = absurd (not-suc-le-zero h)
chunk-is z (suc k) l zero d h = let e : 0 * z ≡ 0 = omega arith in rw e
chunk-is z (suc k) l (suc i) d h =
    let e : z + i * z ≡ suc i * z = omega (arith, suc-mul i z) in
    chunk-is z k (drop z l) i d (le_of_suc-le-suc h) ∙ rw (drop-drop (i * z) z l, e)

-- so a step over each of these, in their order, is what all whole records make of a start
module _ (z : ℕ) (l : List ℕ) (rows : List (List ℕ)) (e : rows ≡ first_chunks z (length l / z) l) (n : length rows ≡ length l / z) {S : Type 0} (step : S → List ℕ → S) (s : S) where
  pub over_none : s ≡ over_to_by step z s l 0
  unfolding over_to_by
  over_none = refl

  pub over_next : (i : ℕ) (d : List ℕ) {p q : S} → i < length rows → p ≡ over_to_by step z s l i → q ≡ step p (get_or rows i d) → q ≡ over_to_by step z s l (i + 1)
  unfolding over_to_by
  over_next i d {p} {q} h f g =
      let is : get_or rows i d ≡ record_by z l i = ap (λ (x : List (List ℕ)). get_or x i d) e ∙ chunk-is z (length l / z) l i d (omega arith) in
      rw add-one (g ∙ ap₂ step f is)

  pub over_ended : (i : ℕ) {p : S} → i ≡ length rows → p ≡ over_to_by step z s l i → p ≡ over_by step z s l
  unfolding over_by whole_by
  over_ended i h f = f ∙ ap (over_to_by step z s l) (h ∙ n)

-- and what it leaves is what is left of a list
pub cut-is : (z : ℕ) (l cut : List ℕ) → cut ≡ drop (length l / z * z) l → cut ≡ left_by z l
unfolding left_by whole_by
cut-is z l cut e = e

module _ (z : ℕ) (some : 0 < z) where
  -- ---- a list that starts with a record
  module _ (r l : List ℕ) (long : length r ≡ z) where
    drop_more : (n : ℕ) → drop (suc n * z) (r ++ l) ≡ drop (n * z) l
    drop_more n =
        let e : suc n * z ≡ length r + n * z = omega (arith, suc-mul n z, long) in
        rw e (drop-append-add r l (n * z))

    pub first_record : record_by z (r ++ l) 0 ≡ r
    unfolding record_by
    first_record =
        let e : 0 * z ≡ 0 = omega arith in
        rw e (take_at r l z long)

    pub next_record : (n : ℕ) → record_by z (r ++ l) (suc n) ≡ record_by z l n
    unfolding record_by
    next_record n = ap (take z) (drop_more n)

    pub whole_more : whole_by z (r ++ l) ≡ suc (whole_by z l)
    unfolding whole_by
    whole_more = rw (length-append r l, long) (add-div_left (length l) some ∙ add-one (length l / z))

    pub left-more : left_by z (r ++ l) ≡ left_by z l
    unfolding left_by
    left-more = rw whole_more (drop_more (whole_by z l))

    module _ {S : Type 0} (step : S → List ℕ → S) (s : S) where
      over-to : (n : ℕ) → over_to_by step z s (r ++ l) (suc n) ≡ over_to_by step z (step s r) l n
      unfolding over_to_by
      over-to zero = ap (step s) first_record
      over-to (suc n) = ap₂ step (over-to n) (next_record n)

      -- its record is stepped over first
      pub over-more : over_by step z s (r ++ l) ≡ over_by step z (step s r) l
      unfolding over_by
      over-more = rw whole_more (over-to (whole_by z l))

  -- ---- a list that is shorter than a record
  module _ (l : List ℕ) (short : length l < z) where
    none_whole : whole_by z l ≡ 0
    unfolding whole_by
    none_whole = div-eq_of_lt short

    pub left-short : left_by z l ≡ l
    unfolding left_by
    left-short =
        let e : 0 * z ≡ 0 = omega arith in
        rw (none_whole, e)

    pub over-short : {S : Type 0} (step : S → List ℕ → S) (s : S) → over_by step z s l ≡ s
    unfolding over_by over_to_by
    over-short step s = rw none_whole

-- another section, so that the laws above can be cited at other lists
module _ (z : ℕ) (some : 0 < z) where
  -- ---- a log that comes in two parts: what the first leaves is put before the second
  module _ {S : Type 0} (step : S → List ℕ → S) (b : List ℕ) where
    -- cutting a and then b is cutting a ++ b
    abbrev pub InTwo : S → List ℕ → Type 0
    InTwo s a = (over_by step z s (a ++ b) ≡ over_by step z (over_by step z s a) (left_by z a ++ b)) × (left_by z (a ++ b) ≡ left_by z (left_by z a ++ b))

    in-two-more : (s : S) (r l : List ℕ) → length r ≡ z → InTwo (step s r) l → InTwo s (r ++ l)
    in-two-more s r l k (i, j) = (
      rw (append_assoc r l b, over-more z some r (l ++ b) k step s, over-more z some r l k step s, left-more z some r l k) i,
      rw (append_assoc r l b, left-more z some r (l ++ b) k, left-more z some r l k) j,
    )

    in-two-to : (n : ℕ) (s : S) (a : List ℕ) → length a < n → InTwo s a
    in-two-to zero s a h = absurd (not-suc-le-zero h)
    in-two-to (suc n) s a h =
        elim (dec_lt (length a) z) [
          | yes q ↦ (rw (left-short z some a q, over-short z some a q step s), rw (left-short z some a q))
          | no q ↦ subst (InTwo s) (take-append-drop z a)
              (in-two-more s (take z a) (drop z a) (length-take-le z a (omega arith)) (in-two-to n (step s (take z a)) (drop z a) (omega (arith, some, length-drop z a))))
        ]

    pub in_two : (s : S) (a : List ℕ) → InTwo s a
    in_two s a = in-two-to (suc (length a)) s a (omega arith)

  -- what is left is always shorter than a record
  pub left_less : (l : List ℕ) → length (left_by z l) < z
  unfolding left_by whole_by
  left_less l = rw (length-drop (length l / z * z) l) (omega (arith, div-add-mod' (length l) z, mod-lt (length l) some))

  -- ---- the bytes that are carried

  -- they make no whole record
  pub held_few : (left : ℕ) → held_by z left < z
  held_few left = elim (dec_lt left z) [ yes h ↦ rw (lt-ltb left z h) h | no h ↦ rw (le-ltb left z (omega arith)) some ]

  -- a list that is shorter than a record comes back as it was left
  pub carried_back : (l : List ℕ) → length l < z → carried_by z (length l) (padded_by z l) ≡ l
  carried_back l h = rw (lt-ltb (length l) z h, length-replicate {A = ℕ} z 0, take_all z l (omega arith)) (take_at l (drop (length l) (replicate z 0)) (length l) refl)

  -- with the 0 behind them there are z bytes
  pub padded-long : (l : List ℕ) → length (padded_by z l) ≡ z
  padded-long l = simp (length-append, length-take, length-drop, length-replicate) (omega arith)

  -- a whole record needs no 0 behind it
  pub nothing_behind : (l : List ℕ) → length l ≡ z → padded_by z l ≡ l
  nothing_behind l e = covered_same (replicate z 0) l (length-replicate {A = ℕ} z 0 ∙ sym e)

  -- ---- a slice that starts with a record

  -- what its whole records leave
  pub leaving : (l : List ℕ) → (left_by z l ≡ drop (length l - length l % z) l) × (length (left_by z l) ≡ length l % z)
  unfolding left_by whole_by
  leaving l =
      let k : length l / z * z ≡ length l - length l % z = omega (arith, div-add-mod' (length l) z) in
      (rw k, rw (length-drop (length l / z * z) l) (omega (arith, div-add-mod' (length l) z)))

  module _ {S : Type 0} (step : S → List ℕ → S) where
    -- the record at place i: after it, the records from i + z on are left
    pub next_one : (l : List ℕ) (i : ℕ) (s u : S) → z ≤ length l - i → u ≡ step s (take (i + z - i) (drop i l)) → over_by step z u (drop (i + z) l) ≡ over_by step z s (drop i l)
    next_one l i s u h e =
        let k : i + z - i ≡ z = omega arith in
        let long : length (take z (drop i l)) ≡ z = length-take-le z (drop i l) (omega (arith, length-drop i l)) in
        rw (e, k, ← (drop-drop z i l)) (sym (over-more z some (take z (drop i l)) (drop z (drop i l)) long step s) ∙ ap (over_by step z s) (take-append-drop z (drop i l)))

    -- a slice of one record
    pub one_record : (s : S) (r : List ℕ) → length r ≡ z → over_by step z s r ≡ step s r
    one_record s r e = ap (over_by step z s) (sym (append-nil r)) ∙ over-more z some r [] e step s ∙ over-short z some [] some step (step s r)

    -- ---- the carried bytes x, and a chunk behind them, of which the first k are taken

    module _ (s : S) (left : ℕ) (carry chunk : List ℕ) (long : length carry ≡ z) where
      abbrev x : List ℕ
      x = carried_by z left carry

      abbrev k : ℕ
      k = taken_by z left (length chunk)

      held : length x ≡ held_by z left
      held = length-take-le (held_by z left) carry (omega (arith, held_few left))

      -- too few for a record: all are carried on
      pub still_short : held_by z left + k < z → (over_by step z s (x ++ chunk) ≡ s) × (left_by z (x ++ chunk) ≡ x ++ chunk) × (length (x ++ chunk) ≡ held_by z left + k)
      still_short h =
          let m : k ≡ length chunk = omega arith in
          let e : length (x ++ chunk) ≡ held_by z left + k = length-append x chunk ∙ omega (arith, held, m) in
          let l : length (x ++ chunk) < z = omega (arith, e, h) in
          (over-short z some (x ++ chunk) l step s, left-short z some (x ++ chunk) l, e)

      -- they are a whole record, and the rest of the chunk comes after it
      pub made_whole : z ≤ held_by z left + k
          → (over_by step z s (x ++ chunk) ≡ over_by step z (step s (padded_by z (x ++ chunk))) (drop k chunk)) × (left_by z (x ++ chunk) ≡ left_by z (drop k chunk)) × (k ≤ length chunk)
      made_whole h =
          let m : k ≤ length chunk = omega arith in
          let whole : length (x ++ take k chunk) ≡ z = length-append x (take k chunk) ∙ omega (arith, held, length-take-le k chunk m, held_few left) in
          let split : x ++ chunk ≡ (x ++ take k chunk) ++ drop k chunk =
          ap (λ (l : List ℕ). x ++ l) (sym (take-append-drop k chunk)) ∙ sym (append_assoc x (take k chunk) (drop k chunk)) in
          let full : padded_by z (x ++ chunk) ≡ x ++ take k chunk =
          ap (padded_by z) split ∙ sym (covered-full (replicate z 0) (x ++ take k chunk) (drop k chunk) (omega (arith, length-replicate {A = ℕ} z 0, whole))) ∙ nothing_behind (x ++ take k chunk) whole in (
            ap (over_by step z s) split ∙ over-more z some (x ++ take k chunk) (drop k chunk) whole step s ∙ ap (λ (r : List ℕ). over_by step z (step s r) (drop k chunk)) (sym full),
            ap (left_by z) split ∙ left-more z some (x ++ take k chunk) (drop k chunk) whole,
            m,
          )

-- a part that runs to the end
pub to_end : (l : List ℕ) (i : ℕ) → take (length l - i) (drop i l) ≡ drop i l
to_end l i = take_all (length l - i) (drop i l) (omega (arith, length-drop i l))
