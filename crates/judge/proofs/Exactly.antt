-- `judge` and `usable` are 01's sentences (specs/Usable.antt), both ways, for any dictionary and any map. `judged_exactly`: the judgement is k at p exactly
-- where rule k is the first of the list that applies and p its lowest position; `judged_none`: it is 0 exactly where no rule applies; `usable_exactly`.
-- Assumes nothing.
use Prim.Native.Nat.{ℕ, zero, suc, ◌+◌, ◌%◌, ◌≤◌, ◌<◌}
use mathlib.Core.Path.{◌≡◌, refl, sym, ap, ◌∙◌}
use mathlib.Core.Logic.{◌⊎◌, inl, inr, ⊎_elim, ◌↔◌}
use mathlib.Core.Bool.{Bool, true, false, cond, not, ◌&&◌, and-eq-true_iff}
use mathlib.Core.Option.{Option, none, some, none-ne-some, some-injective}
use mathlib.Core.List.{[], ◌∷◌}
use native.Mathlib.Nat.{not-suc-le-zero}
use native.Mathlib.Decide.{dec_lt, ℕ_discrete}
use native.Mathlib.Omega.{arith}
use borrow.Author.Tests.{eqb-true, eqb-false, eq-eqb, ne_eqb, not-true, leb-true, le-leb, ltb-true, lt-ltb}
use lib.Dec.{eqb}
use Rattle.answers.specs.Answers.{Judged, at}
use Rattle.message.specs.declared.Head.{Head}
use Rattle.message.specs.declared.Place.{Place}
use Rattle.words.specs.Lists.{tabulate}
use Rattle.words.specs.First.{first, any, lowest}
use Rattle.words.proofs.Lowest.{any_at, any_found}
use Rattle.words.proofs.Tests.{test, never}
use Rattle.judge.proofs.Rules.{Finds, Decides, rule_passed, rule_next, none_first, one-first, finds}
use Rattle.places.specs.Place.{odd, place, end_of, shares_bit, end_to, bytes_for, size_of}
use Rattle.places.proofs.Meet.{meet-at, meet_none, meet_found}
use Rattle.maps.specs.Maps.{Map, Nothing, Conflict, Held}
use Rattle.judge.specs.Judge.{Param, with_width, measured, is_none, spn_at, start_at, width_at, missing, unknown, repeated, not_above, uneven, overlaps, beyond, wrong_transport, first_named, judge_over, judge, usable, length_of}
use Rattle.judge.specs.Usable.{StandsAt, ConflictAt, MissingAt, UnknownAt, RepeatedAt, NotAboveAt, UnevenAt, OverlapsAt, BeyondAt, TransportAt, rule_list, Nowhere, NoneApplies, FirstApplies, Usable}

-- one that passes a test
any_some : (t : ℕ → Bool) (n : ℕ) → any t n ≡ true → (i : ℕ) × (i < n) × (t i ≡ true)
any_some t n e = let (l, p) = any_found t n e in (first t n, l, p)

-- ---- the rules of a map that is held and not in conflict

-- bits shared, as places
shares_some : (s1 w1 s2 w2 : ℕ) → shares_bit s1 w1 s2 w2 ≡ true → (i j : ℕ) × (i < w1) × (j < w2) × (place s1 w1 i ≡ place s2 w2 j)
unfolding shares_bit
shares_some s1 w1 s2 w2 = meet_found (place s1 w1) w1 (place s2 w2) w2

shares_at : (s1 w1 s2 w2 i j : ℕ) → i < w1 → j < w2 → place s1 w1 i ≡ place s2 w2 j → shares_bit s1 w1 s2 w2 ≡ true
unfolding shares_bit
shares_at s1 w1 s2 w2 i j l m e = meet-at (place s1 w1) w1 (place s2 w2) w2 i j l m e

pub shares_no : (s1 w1 s2 w2 : ℕ) → ((i j : ℕ) → i < w1 → j < w2 → place s1 w1 i ≡ place s2 w2 j → ⊥) → shares_bit s1 w1 s2 w2 ≡ false
unfolding shares_bit
shares_no s1 w1 s2 w2 = meet_none (place s1 w1) w1 (place s2 w2) w2

-- an odd width's start, as it is tested and as it is said
uneven-is : (s w : ℕ) → ((odd w && not (eqb (s % 8) 0)) ≡ true) ↔ ((odd w ≡ true) × (s % 8 ≡ 0 → ⊥))
uneven-is s w = (
  λ e. let (a, b) = (and-eq-true_iff (odd w) (not (eqb (s % 8) 0))).0 e in (a, eqb-false (s % 8) 0 (not-true _ b)),
  λ (a, b). rw (a, ne_eqb (s % 8) 0 b),
)

-- the flag, as it is tested and as it is said
wrong_is : (t : Bool) (l : ℕ) → (wrong_transport t l ≡ true) ↔ (((t ≡ true) × (l ≡ 8)) ⊎ ((t ≡ false) × (8 < l)))
wrong_is true l = (λ e. inl (refl, eqb-true l 8 e), ⊎_elim (λ (e, q). eq-eqb l 8 q) (λ (e, q). never refl e))
wrong_is false l = (λ e. inr (refl, ltb-true 8 l e), ⊎_elim (λ (e, q). never e refl) (λ (e, q). lt-ltb 8 l q))

-- L is at least 8
size-least : (width_of : ℕ → ℕ) (m : Map) → 8 ≤ length_of width_of m
unfolding size_of bytes_for
size-least width_of m = omega arith

module _ (width_of : ℕ → ℕ) (h : Head) (places : ℕ → Option Place) where
  abbrev map : Map
  map = Held h places

  abbrev ps : ℕ → Option Param
  ps = measured width_of places

  missing_finds : Finds (MissingAt map) (lowest (missing ps) h.n)
  missing_finds = finds _ h.n (MissingAt map) (λ i l e. (omega arith, l, gone (places (suc i)) e)) (λ a. omega (arith, a.0)) (λ i a. (a.1, rw a.2))
    where
      gone : (o : Option Place) → is_none (with_width width_of o) ≡ true → o ≡ none
      gone none e = refl
      gone (some x) e = never e refl

  module _ (here : Nowhere (MissingAt map)) where
    -- what stands at an index below n
    there : (i : ℕ) → i < h.n → (x : Place) × (places (suc i) ≡ some x)
    there i l = go (places (suc i)) refl
      where
        go : (o : Option Place) → places (suc i) ≡ o → (x : Place) × (places (suc i) ≡ some x)
        go none e = absurd (here (suc i) (omega arith, l, e))
        go (some x) e = (x, e)

    unknown_finds : Finds (UnknownAt width_of map) (lowest (unknown (width_at ps)) h.n)
    unknown_finds =
        finds _ h.n (UnknownAt width_of map)
        (λ i l e. let (x, q) = there i l in (x, (omega arith, l, q), eqb-true _ 0 (rw q at e)))
        (λ (x, s, z). omega (arith, s.0)) (λ i (x, s, z). (s.1, rw s.2 (eq-eqb _ 0 z)))

    repeated_finds : Finds (RepeatedAt map) (lowest (repeated (spn_at ps)) h.n)
    repeated_finds = finds _ h.n (RepeatedAt map) (λ i l e. found i l (any_some _ i e)) (λ (x, s, w). omega (arith, s.0)) (λ i (x, s, (q, y, v, l, e)). (s.1, back i x s q y v l e))
      where
        found : (i : ℕ) → i < h.n → (j : ℕ) × (j < i) × (eqb (spn_at ps j) (spn_at ps i) ≡ true) → RepeatedAt map (suc i)
        found i l (j, k, f) =
            let (x, q) = there i l in
            let (y, r) = there j (omega arith) in
            (x, (omega arith, l, q), (suc j, y, (omega arith, omega arith, r), omega arith, eqb-true _ _ (rw (q, r) at f)))

        back : (i : ℕ) (x : Place) → StandsAt map (suc i) x → (q : ℕ) (y : Place) → StandsAt map q y → q < suc i → y.spn ≡ x.spn → repeated (spn_at ps) i ≡ true
        back i x s zero y v l e = absurd (omega (arith, v.0))
        back i x s (suc j) y v l e = any_at _ i j (omega arith) (rw (s.2, v.2) (eq-eqb _ _ e))

    not_above_finds : Finds (NotAboveAt map) (lowest (not_above (start_at ps)) h.n)
    unfolding not_above
    not_above_finds = finds _ h.n (NotAboveAt map) found (λ (x, s, w). omega (arith, s.0)) (λ i (x, s, (q, y, v, e, l)). (s.1, back i x s q y v e l))
      where
        found : (i : ℕ) → i < h.n → not_above (start_at ps) i ≡ true → NotAboveAt map (suc i)
        found zero l e = never e refl
        found (suc i) l e =
            let (x, q) = there (suc i) l in
            let (y, r) = there i (omega arith) in
            (x, (omega arith, l, q), (suc i, y, (omega arith, omega arith, r), omega arith, leb-true _ _ (rw (q, r) at e)))

        back : (i : ℕ) (x : Place) → StandsAt map (suc i) x → (q : ℕ) (y : Place) → StandsAt map q y → q + 1 ≡ suc i → x.start ≤ y.start → not_above (start_at ps) i ≡ true
        back zero x s q y v e l = absurd (omega (arith, v.0))
        back (suc i) x s q y v e l =
            let r : q ≡ suc i = omega arith in
            rw (s.2, rw r at v.2) (le-leb _ _ l)

    uneven_finds : Finds (UnevenAt width_of map) (lowest (uneven (start_at ps) (width_at ps)) h.n)
    uneven_finds =
        finds _ h.n (UnevenAt width_of map)
        (λ i l e. let (x, q) = there i l in (x, (omega arith, l, q), (uneven-is _ _).0 (rw q at e)))
        (λ (x, s, z). omega (arith, s.0)) (λ i (x, s, z). (s.1, rw s.2 ((uneven-is _ _).1 z)))

    overlaps_finds : Finds (OverlapsAt width_of map) (lowest (overlaps (start_at ps) (width_at ps)) h.n)
    overlaps_finds = finds _ h.n (OverlapsAt width_of map) (λ i l e. found i l (any_some _ i e)) (λ (x, s, w). omega (arith, s.0)) (λ i (x, s, (q, y, v, l, b)). (s.1, back i x s q y v l b))
      where
        found : (i : ℕ) → i < h.n → (j : ℕ) × (j < i) × (shares_bit (start_at ps j) (width_at ps j) (start_at ps i) (width_at ps i) ≡ true) → OverlapsAt width_of map (suc i)
        found i l (j, k, f) =
            let (x, q) = there i l in
            let (y, r) = there j (omega arith) in
            (x, (omega arith, l, q), (suc j, y, (omega arith, omega arith, r), omega arith, shares_some _ _ _ _ (rw (q, r) at f)))

        back : (i : ℕ) (x : Place) → StandsAt map (suc i) x → (q : ℕ) (y : Place) → StandsAt map q y → q < suc i
            → (a b : ℕ) × (a < width_of y.spn) × (b < width_of x.spn) × (place y.start (width_of y.spn) a ≡ place x.start (width_of x.spn) b)
            → overlaps (start_at ps) (width_at ps) i ≡ true
        back i x s zero y v l b = absurd (omega (arith, v.0))
        back i x s (suc j) y v l (a, b, c, d, e) = any_at _ i j (omega arith) (rw (s.2, v.2) (shares_at _ _ _ _ a b c d e))

    beyond_finds : Finds (BeyondAt width_of map) (lowest (beyond (start_at ps) (width_at ps)) h.n)
    beyond_finds =
        finds _ h.n (BeyondAt width_of map)
        (λ i l e. let (x, q) = there i l in (x, (omega arith, l, q), ltb-true 14280 _ (rw q at e)))
        (λ (x, s, z). omega (arith, s.0)) (λ i (x, s, z). (s.1, rw s.2 (lt-ltb 14280 _ z)))

  -- 8 or 0
  transport_judges : Decides ((8, TransportAt width_of map) ∷ []) (first_named [] (at (cond (wrong_transport h.transport (length_of width_of map)) 8 0) 0))
  unfolding first_named
  transport_judges = test (wrong_transport h.transport (length_of width_of map)) (λ y. rw y (record { said = inr (omega arith, wrong y) })) (λ y. rw y (record { said = inl (refl, (right y, tt)) }))
    where
      wrong : wrong_transport h.transport (length_of width_of map) ≡ true → FirstApplies ((8, TransportAt width_of map) ∷ []) 8 0
      wrong y = inl (refl, ((wrong_is h.transport (length_of width_of map)).0 y, refl), λ q l. absurd (not-suc-le-zero l))

      right : wrong_transport h.transport (length_of width_of map) ≡ false → Nowhere (TransportAt width_of map)
      right y p a = never ((wrong_is h.transport (length_of width_of map)).1 a.0) y

  held_judges : Decides (rule_list width_of map) (judge width_of map)
  unfolding judge_over
  held_judges =
      rule_passed 1 (ConflictAt map) _ (judge width_of map) (λ q (e, z). let y : ◌≡◌ {A = ℕ} 0 1 = cc in omega arith)
      (rule_next 2 (MissingAt map) _ _ _ _ (omega arith) missing_finds
      (λ here. rule_next 3 (UnknownAt width_of map) _ _ _ _ (omega arith) (unknown_finds here)
      (λ _. rule_next 4 (RepeatedAt map) _ _ _ _ (omega arith) (repeated_finds here)
      (λ _. rule_next 5 (NotAboveAt map) _ _ _ _ (omega arith) (not_above_finds here)
      (λ _. rule_next 9 (UnevenAt width_of map) _ _ _ _ (omega arith) (uneven_finds here)
      (λ _. rule_next 6 (OverlapsAt width_of map) _ _ _ _ (omega arith) (overlaps_finds here)
      (λ _. rule_next 7 (BeyondAt width_of map) _ _ _ _ (omega arith) (beyond_finds here) (λ _. transport_judges))))))))

-- ---- of any map

module _ (width_of : ℕ → ℕ) where
  judges : (m : Map) → Decides (rule_list width_of m) (judge width_of m)
  unfolding tabulate end_to size_of bytes_for
  judges Nothing =
      rule_passed 1 (ConflictAt Nothing) _ _ (λ q (e, z). let y : ◌≡◌ {A = ℕ} 0 1 = cc in omega arith)
      (rule_passed 2 (MissingAt Nothing) _ _ (λ q a. omega arith)
      (rule_passed 3 (UnknownAt width_of Nothing) _ _ (λ q (x, s, z). omega arith)
      (rule_passed 4 (RepeatedAt Nothing) _ _ (λ q (x, s, z). omega arith)
      (rule_passed 5 (NotAboveAt Nothing) _ _ (λ q (x, s, z). omega arith)
      (rule_passed 9 (UnevenAt width_of Nothing) _ _ (λ q (x, s, z). omega arith)
      (rule_passed 6 (OverlapsAt width_of Nothing) _ _ (λ q (x, s, z). omega arith)
      (rule_passed 7 (BeyondAt width_of Nothing) _ _ (λ q (x, s, z). omega arith)
      (rule_passed 8 (TransportAt width_of Nothing) _ _ (λ q (w, z). ⊎_elim (λ (e, y). never e refl) (λ (e, y). omega arith) w) (record { said = inl (refl, tt) })))))))))
  judges Conflict = record { said = inr (omega arith, inl (refl, (refl, refl), λ q l. absurd (not-suc-le-zero l))) }
  judges (Held h places) = held_judges width_of h places

  -- the judgement is k at p exactly where rule k is the first that applies and p the lowest position that it applies to
  pub judged_exactly : (m : Map) (k p : ℕ) → 1 ≤ k → (judge width_of m ≡ at k p) ↔ FirstApplies (rule_list width_of m) k p
  judged_exactly m k p l = (there, back)
    where
      there : judge width_of m ≡ at k p → FirstApplies (rule_list width_of m) k p
      there e = ⊎_elim (λ (z, clear). absurd (omega (arith, ap (λ (j : Judged). j.number) (sym z ∙ e))))
          (λ (l, f). rw (ap (λ (j : Judged). j.number) e, ap (λ (j : Judged). j.position) e) at f)
          (judges m).said

      back : FirstApplies (rule_list width_of m) k p → judge width_of m ≡ at k p
      back f = ⊎_elim (λ (z, clear). absurd (none_first (rule_list width_of m) k p clear f))
          (λ (_, g). let (a, b) = one-first (rule_list width_of m) (judge width_of m).number (judge width_of m).position k p g f in
          λ t. at (a t) (b t))
          (judges m).said

  -- it is 0 exactly where no rule applies to any position; that names none
  pub judged_none : (m : Map) → (judge width_of m ≡ at 0 0) ↔ NoneApplies (rule_list width_of m)
  judged_none m = (there, back)
    where
      there : judge width_of m ≡ at 0 0 → NoneApplies (rule_list width_of m)
      there e = ⊎_elim (λ (z, clear). clear) (λ (l, f). absurd (omega (arith, l, ap (λ (j : Judged). j.number) e))) (judges m).said

      back : NoneApplies (rule_list width_of m) → judge width_of m ≡ at 0 0
      back clear = ⊎_elim (λ (z, _). z) (λ (_, f). absurd (none_first (rule_list width_of m) _ _ clear f)) (judges m).said

-- ---- usable

-- what stands at a position that is not missing
unfoldable the : Option Place → Place
the none = record { spn = 0; start = 0 }
the (some x) = x

module _ (width_of : ℕ → ℕ) where
  -- where no rule applies to a map that is held
  clear_usable : (h : Head) (places : ℕ → Option Place) → NoneApplies (rule_list width_of (Held h places)) → Usable width_of (Held h places)
  unfolding the
  clear_usable h places (r1, (r2, (r3, (r4, (r5, (r9, (r6, (r7, (r8, end))))))))) = record {
    head = h;
    places = places;
    held = refl;
    it = it;
    present = present;
    known = λ p a b. elim (dec_lt 0 (width_of (it p).spn)) [ yes l ↦ l | no l ↦ absurd (r3 p (it p, (a, b, present p a b), omega arith)) ];
    once = λ q p a l b e. r4 p (it p, stands p (omega arith) b, (q, it q, stands q a (omega arith), l, e));
    rises = λ q p a e b. elim (dec_lt (it q).start (it p).start) [
      | yes l ↦ l
      | no l ↦ absurd (r5 p (it p, stands p (omega arith) b, (q, it q, stands q a (omega arith), e, omega arith)))
    ];
    even = λ p a b o. elim (ℕ_discrete ((it p).start % 8) 0) [
      | yes e ↦ e
      | no e ↦ absurd (r9 p (it p, stands p a b, (o, e)))
    ];
    apart = λ q p a l b i j x y e. r6 p (it p, stands p (omega arith) b, (q, it q, stands q a (omega arith), l, (i, j, x, y, e)));
    within = λ p a b. elim (dec_lt 14280 (end_of (it p).start (width_of (it p).spn))) [
      | yes l ↦ absurd (r7 p (it p, stands p a b, l))
      | no l ↦ omega arith
    ];
    flag = flag h.transport refl;
  }
    where
      it : ℕ → Place
      it p = the (places p)

      present : (p : ℕ) → 1 ≤ p → p ≤ h.n → places p ≡ some (the (places p))
      present p a b = go (places p) refl
        where
          go : (o : Option Place) → places p ≡ o → o ≡ some (the o)
          go none e = absurd (r2 p (a, b, e))
          go (some x) e = refl

      stands : (p : ℕ) → 1 ≤ p → p ≤ h.n → StandsAt (Held h places) p (the (places p))
      stands p a b = (a, b, present p a b)

      flag : (t : Bool) → h.transport ≡ t → (h.transport ≡ true) ↔ (8 < length_of width_of (Held h places))
      flag true e = (
        λ _. elim (dec_lt 8 (length_of width_of (Held h places))) [
          | yes l ↦ l
          | no l ↦ absurd (r8 0 (inl (e, omega (arith, size-least width_of (Held h places))), refl))
        ],
        λ _. e,
      )
      flag false e = (λ f. never f e, λ l. absurd (r8 0 (inr (e, l), refl)))

  -- and the other way
  module _ (m : Map) (u : Usable width_of m) where
    same : (p : ℕ) (x : Place) → StandsAt (Held u.head u.places) p x → x ≡ u.it p
    same p x (a, b, e) = some-injective _ _ (sym e ∙ u.present p a b)

    usable_clear : NoneApplies (rule_list width_of (Held u.head u.places))
    usable_clear = (
      λ p (e, z). let y : ◌≡◌ {A = ℕ} 0 1 = cc in omega arith,
      (
        λ p (a, b, e). none-ne-some (u.it p) (sym e ∙ u.present p a b),
        (
          λ p (x, s, z). omega (arith, rw (same p x s) at z, u.known p s.0 s.1),
          (
            λ p (x, s, (q, y, v, l, e)). u.once q p v.0 l s.1 (rw (same p x s, same q y v) at e),
            (
              λ p (x, s, (q, y, v, e, l)). omega (arith, u.rises q p v.0 e s.1, rw (same p x s, same q y v) at l),
              (
                λ p (x, s, (o, f)). rw (same p x s) at f (u.even p s.0 s.1 (rw (same p x s) at o)),
                (
                  λ p (x, s, (q, y, v, l, (i, j, c, d, e))).
                      u.apart q p v.0 l s.1 i j (rw (same q y v) at c) (rw (same p x s) at d) (rw (same p x s, same q y v) at e),
                  (
                    λ p (x, s, l). omega (arith, u.within p s.0 s.1, rw (same p x s) at l),
                    (
                      λ p (w, z). ⊎_elim (λ (t, e). omega (arith, (rw u.held at u.flag).0 t, e)) (λ (t, l). never ((rw u.held at u.flag).1 l) t) w,
                      tt,
                    ),
                  ),
                ),
              ),
            ),
          ),
        ),
      ),
    )

  -- "usable" is judgement 0, and that names no position
  pub usable-judged : (m : Map) → usable width_of m ≡ true → judge width_of m ≡ at 0 0
  usable-judged Nothing e = refl
  usable-judged Conflict e = never e refl
  usable-judged (Held h places) e =
      ⊎_elim (λ (z, _). z) (λ (l, f). absurd (omega (arith, l, eqb-true (judge width_of (Held h places)).number 0 e))) (judges width_of (Held h places)).said

  -- "0 usable": the map is held and not in conflict, and no rule of 01's list applies to any position
  pub usable_exactly : (m : Map) → (usable width_of m ≡ true) ↔ Usable width_of m
  usable_exactly m = (there m, back)
    where
      there : (m : Map) → usable width_of m ≡ true → Usable width_of m
      there Nothing e = never e refl
      there Conflict e = never e refl
      there (Held h places) e = clear_usable h places ((judged_none width_of (Held h places)).0 (usable-judged (Held h places) e))

      back : Usable width_of m → usable width_of m ≡ true
      back u =
          rw u.held
          (eq-eqb _ 0 (ap (λ (j : Judged). j.number) ((judged_none width_of (Held u.head u.places)).1 (usable_clear m u))))
