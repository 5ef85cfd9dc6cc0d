-- One event: what it makes of each pair's session, and that the memory stays as it has to be. Assumes nothing.
use Prim.Native.Nat.{ℕ, ◌+◌, ◌-◌, ◌*◌, ◌%◌, ◌^◌, ◌≤◌, ◌<◌}
use native.Mathlib.Omega.{arith}
use native.Mathlib.Decide.{dec_lt}
use mathlib.Core.Path.{◌≡◌, refl, sym, ap, subst, ◌∙◌}
use mathlib.Core.Bool.{true, false, not, ◌&&◌}
use mathlib.Core.Option.{Option, none, some}
use mathlib.Core.List.{List, ◌++◌}
use borrow.Author.Tests.{lt-ltb, le-ltb, eq-eqb}
use lib.ListN.{length, take, drop, get_or, set, length-append, length-take, length-set}
use lib.Seq.{take_all, get_or-set_same, get_or-set_other}
use Rattle.words.specs.Rows.{row_at}
use Rattle.words.proofs.Rows.{length-row_at}
use Rattle.words.proofs.Tests.{test, never}
use Rattle.splice.specs.Splice.{splice}
use Rattle.splice.proofs.Laws.{length-splice}
use Rattle.session.specs.Session.{Session, opened, grown, is_next, is_last, after}
use Rattle.session.specs.Cut.{number_of, seven_of}
use Rattle.session.proofs.Steps.{next-is, grows, ends, drops}
use Rattle.session.proofs.Seven.{seven_long}
use Rattle.transport.specs.Rows.{Memory, holder_word, next_word, size_word, row, row_of, row_is, row_with, session_in, session_of}
use Rattle.transport.specs.Calls.{place_for, open_row, opens, head_after, bytes_after, memory_after, takes_at, takes}
use Rattle.transport.proofs.Words.{bytes-long, laid_front}
use Rattle.arrivals.specs.Events.{Event, Asks, Brings, subject}
use Rattle.arrivals.specs.Calls.{event}
use Rattle.arrivals.proofs.Rows.{holds, held_by_lem, not-held_by, is_at, under, free-at, session_at, session_none, with_row, put_own, put-gone, put_other, same_bytes, Sane, sane_put, no_second}

-- ---- a request to send

module _ (m : Memory) (s : Sane m) (pair size pgn : ℕ) where
  -- where the pair has its session, and where its new one goes
  abbrev own : ℕ
  own = row_with m.heads (pair + 1)

  abbrev place : ℕ
  place = place_for m.heads (pair + 1)

  place_own : own < 8 → place ≡ own
  unfolding place_for
  place_own o = rw (lt-ltb own 8 o)

  place-free : 8 ≤ own → place ≡ row_with m.heads 0
  unfolding place_for
  place-free o = rw (le-ltb own 8 o)

  abbrev head : List ℕ
  head = open_row (pair + 1) size pgn

  abbrev kept-bytes : List ℕ
  kept-bytes = row_at 1785 m.bytes place

  -- there is a place, or there is none
  asks_into : place < 8 → event m (Asks pair size pgn) ≡ with_row m place head kept-bytes
  unfolding opens
  asks_into h = rw (lt-ltb place 8 h) (sym (same_bytes m s.wide place h head))

  pub asks_none : 8 ≤ place → event m (Asks pair size pgn) ≡ m
  unfolding opens
  asks_none h = rw (le-ltb place 8 h)

  module _ (h : place < 8) where
    -- no row below the place is the pair's, and the row there is no other pair's
    below : (k : ℕ) → k < place → row_is (row_of m k) pair ≡ false
    below k l =
        elim (dec_lt own 8) [
          | yes o ↦ under m pair k (omega (arith, place_own o))
          | no o ↦ under m pair k (omega arith)
        ]

    was : (q : ℕ) → (pair ≡ q → ⊥) → row_is (row_of m place) q ≡ false
    was q ne =
        elim (dec_lt own 8) [
          | yes o ↦ ap (λ (k : ℕ). row_is (row_of m k) q) (place_own o)
              ∙ not-held_by (row_of m own) q (λ e. ne (omega (arith, e, holds (row_of m own) pair (is_at m pair o))))
          | no o ↦ let f = place-free (omega arith) in
              ap (λ (k : ℕ). row_is (row_of m k) q) f
              ∙ not-held_by (row_of m (row_with m.heads 0)) q (λ e. omega (arith, e, free-at m (omega (arith, f))))
        ]

    -- no other row is the pair's
    second : (k : ℕ) → k < 8 → (k ≡ place → ⊥) → row_is (row_of m k) pair ≡ false
    second k l ne =
        elim (dec_lt own 8) [
          | yes o ↦ no_second m s pair own o (is_at m pair o) k l (λ e. ne (e ∙ sym (place_own o)))
          | no o ↦ under m pair k (omega arith)
        ]

    most-kept : length kept-bytes ≡ 1785
    most-kept = bytes-long m.bytes s.wide place h

    pub asks_own : session_of (event m (Asks pair size pgn)) pair ≡ some (opened size pgn)
    asks_own =
        ap (λ (u : Memory). session_of u pair) (asks_into h)
        ∙ put_own m s.long s.wide place h head kept-bytes refl most-kept pair below (eq-eqb (pair + 1) (pair + 1) refl)

    into_other : (q : ℕ) → (pair ≡ q → ⊥) → session_of (event m (Asks pair size pgn)) q ≡ session_of m q
    into_other q ne =
        ap (λ (u : Memory). session_of u q) (asks_into h)
        ∙ put_other m s.long s.wide place h head kept-bytes refl most-kept q (was q ne) (not-held_by (row head kept-bytes) q (λ e. ne (omega (arith, e))))

    into_sane : Sane (event m (Asks pair size pgn))
    into_sane =
        subst (λ (u : Memory). Sane u) (sym (asks_into h))
        (sane_put m s place h head kept-bytes refl most-kept
        (λ q k l ne x y.
        let e : q ≡ pair = omega (arith, holds (row head kept-bytes) q x) in
        never y (ap (row_is (row_of m k)) e ∙ second k l ne)))

  pub asks_other : (q : ℕ) → (pair ≡ q → ⊥) → session_of (event m (Asks pair size pgn)) q ≡ session_of m q
  asks_other q ne =
      elim (dec_lt place 8) [
        | yes h ↦ into_other h q ne
        | no h ↦ ap (λ (u : Memory). session_of u q) (asks_none (omega arith))
      ]

  asks_sane : Sane (event m (Asks pair size pgn))
  asks_sane =
      elim (dec_lt place 8) [
        | yes h ↦ into_sane h
        | no h ↦ subst (λ (u : Memory). Sane u) (sym (asks_none (omega arith))) s
      ]

-- ---- a packet in a row

module _ (words bytes x : List ℕ) (n : ℕ) (four : length words ≡ 4) (most : length bytes ≡ 1785) (seven : length x ≡ 7) where
  head-long : length (head_after words n) ≡ 4
  head-long =
      test (is_next (next_word words) n && not (is_last (size_word words) n)) (λ e. rw e (length-set words 1 (n + 1) ∙ four)) (λ f. rw f (length-set words 0 0 ∙ four))

  room : is_next (next_word words) n ≡ true → 7 * (n - 1) + length x ≤ length bytes
  room e = let (t, (p, l)) = next-is (next_word words) n e in omega (arith, p, l)

  row-long : length (bytes_after (row words bytes) n x) ≡ 1785
  row-long =
      test (is_next (next_word words) n) (λ e. rw e (length-splice bytes (7 * (n - 1)) x (room e) ∙ most)) (λ f. rw f most)

  -- whose it is afterwards, its it was before
  still : (q : ℕ) (b : List ℕ) → row_is (row (head_after words n) b) q ≡ true → row_is (row words bytes) q ≡ true
  still q b =
      test (is_next (next_word words) n && not (is_last (size_word words) n))
      (λ e. rw e (λ o. held_by_lem (row words bytes) q (sym (get_or-set_other words 1 0 (n + 1) 0 (λ z. omega (arith, z))) ∙ holds (row (set words 1 (n + 1)) b) q o)))
      (λ f. rw f (λ o. absurd (omega (arith, holds (row (set words 0 0) b) q o, get_or-set_same words 0 0 0 (omega arith)))))

  -- the bytes that came, with the seven behind them
  came_is : 7 * (n - 1) + length x ≤ length bytes → take (7 * (n - 1) + length x) (splice bytes (7 * (n - 1)) x) ≡ take (7 * (n - 1)) bytes ++ x
  came_is r =
      laid_front bytes x (7 * (n - 1)) (7 * (n - 1) + length x) r (omega arith)
      ∙ take_all (7 * (n - 1) + length x) (take (7 * (n - 1)) bytes ++ x) (simp (length-append, length-take) (omega arith))

  -- one packet more
  row-grown : is_next (next_word words) n ≡ true → session_in (row (set words 1 (n + 1)) (splice bytes (7 * (n - 1)) x)) ≡ grown (session_in (row words bytes)) x
  row-grown e =
      let (t, (p, l)) = next-is (next_word words) n e in
      let same = get_or-set_same words 1 (n + 1) 0 (omega arith) in
      let size = get_or-set_other words 1 2 (n + 1) 0 (λ z. omega (arith, z)) in
      let pgn = ap (λ (w : ℕ). w % 2 ^ 24) (get_or-set_other words 1 3 (n + 1) 0 (λ z. omega (arith, z))) in
      let next = same ∙ ap (λ (k : ℕ). k + 1) (sym t) in
      let far : 7 * (get_or (set words 1 (n + 1)) 1 0 - 1) ≡ 7 * (n - 1) + length x = omega (arith, same, p, seven) in
      let all =
      ap (λ (k : ℕ). take k (splice bytes (7 * (n - 1)) x)) far ∙ came_is (room e) ∙ ap (λ (k : ℕ). take (7 * (k - 1)) bytes ++ x) (sym t) in
      λ j. record { size = size j; pgn = pgn j; next = next j; bytes = all j }

-- ---- a packet

module _ (m : Memory) (s : Sane m) (pair : ℕ) (d : List ℕ) where
  abbrev there : ℕ
  there = row_with m.heads (pair + 1)

  brings_into : there < 8 → event m (Brings pair d) ≡ memory_after m there d
  unfolding takes takes_at
  brings_into h = rw (event, lt-ltb there 8 h)

  pub brings_none : 8 ≤ there → event m (Brings pair d) ≡ m
  unfolding takes
  brings_none h = rw (event, le-ltb there 8 h)

  module _ (h : there < 8) where
    abbrev words : List ℕ
    words = row_at 4 m.heads there

    abbrev bytes : List ℕ
    bytes = row_at 1785 m.bytes there

    four : length words ≡ 4
    four = length-row_at 4 m.heads there (omega (arith, s.long))

    most : length bytes ≡ 1785
    most = bytes-long m.bytes s.wide there h

    seven : length (seven_of d) ≡ 7
    seven = seven_long 0 (drop 1 d)

    mine : row_is (row_of m there) pair ≡ true
    mine = is_at m pair h

    other : (q : ℕ) → (pair ≡ q → ⊥) → row_is (row_of m there) q ≡ false
    other q ne = not-held_by (row_of m there) q (λ e. ne (omega (arith, e, holds (row_of m there) pair mine)))

    abbrev later_head : List ℕ
    later_head = head_after words (number_of d)

    abbrev later_bytes : List ℕ
    later_bytes = bytes_after (row_of m there) (number_of d) (seven_of d)

    later_four : length later_head ≡ 4
    later_four = head-long words bytes (seven_of d) (number_of d) four most seven

    later_most : length later_bytes ≡ 1785
    later_most = row-long words bytes (seven_of d) (number_of d) four most seven

    was_before : (q : ℕ) → row_is (row later_head later_bytes) q ≡ true → row_is (row_of m there) q ≡ true
    was_before q = still words bytes (seven_of d) (number_of d) four most seven q later_bytes

    after-other : (q : ℕ) → (pair ≡ q → ⊥) → session_of (event m (Brings pair d)) q ≡ session_of m q
    after-other q ne =
        ap (λ (u : Memory). session_of u q) (brings_into h)
        ∙ put_other m s.long s.wide there h later_head later_bytes later_four later_most q (other q ne)
        (test (row_is (row later_head later_bytes) q) (λ e. never (was_before q e) (other q ne)) (λ f. f))

    after_sane : Sane (event m (Brings pair d))
    after_sane =
        subst (λ (u : Memory). Sane u) (sym (brings_into h))
        (sane_put m s there h later_head later_bytes later_four later_most (λ q k l ne x y. never y (no_second m s q there h (was_before q x) k l ne)))

    -- the session grows
    into_more : is_next (next_word words) (number_of d) ≡ true → is_last (size_word words) (number_of d) ≡ false
        → memory_after m there d ≡ with_row m there (set words 1 (number_of d + 1)) (splice bytes (7 * (number_of d - 1)) (seven_of d))
    into_more e f = rw (e, f)

    more : is_next (next_word words) (number_of d) ≡ true → is_last (size_word words) (number_of d) ≡ false
        → session_of (memory_after m there d) pair ≡ after (some (session_in (row_of m there))) (number_of d) (seven_of d)
    more e f =
        let r = room words bytes (seven_of d) (number_of d) four most seven e in
        ap (λ (u : Memory). session_of u pair) (into_more e f)
        ∙ put_own m s.long s.wide there h (set words 1 (number_of d + 1)) (splice bytes (7 * (number_of d - 1)) (seven_of d))
        (length-set words 1 (number_of d + 1) ∙ four) (length-splice bytes (7 * (number_of d - 1)) (seven_of d) r ∙ most) pair (under m pair)
        (held_by_lem (row (set words 1 (number_of d + 1)) (splice bytes (7 * (number_of d - 1)) (seven_of d))) pair
        (get_or-set_other words 1 0 (number_of d + 1) 0 (λ z. omega (arith, z)) ∙ holds (row_of m there) pair mine))
        ∙ ap some (row-grown words bytes (seven_of d) (number_of d) four most seven e)
        ∙ sym (grows (session_in (row_of m there)) (number_of d) (seven_of d) e f)

    -- it is over
    nobodys : (is_next (next_word words) (number_of d) && not (is_last (size_word words) (number_of d))) ≡ false → holder_word later_head ≡ pair + 1 → ⊥
    nobodys f = rw f (λ e. omega (arith, e, get_or-set_same words 0 0 0 (omega (arith, four))))

    over : (is_next (next_word words) (number_of d) && not (is_last (size_word words) (number_of d))) ≡ false → session_of (memory_after m there d) pair ≡ none
    over f =
        put-gone m s.long s.wide there h later_head later_bytes later_four later_most pair (no_second m s pair there h mine)
        (not-held_by (row later_head later_bytes) pair (nobodys f))

    in-its-row : session_of (memory_after m there d) pair ≡ after (some (session_in (row_of m there))) (number_of d) (seven_of d)
    in-its-row =
        test (is_next (next_word words) (number_of d))
        (λ e. test (is_last (size_word words) (number_of d))
        (λ l. over (rw (e, l)) ∙ sym (ends (session_in (row_of m there)) (number_of d) (seven_of d) e l))
        (λ f. more e f))
        (λ f. over (rw f) ∙ sym (drops (session_in (row_of m there)) (number_of d) (seven_of d) f))

    after_own : session_of (event m (Brings pair d)) pair ≡ after (session_of m pair) (number_of d) (seven_of d)
    after_own =
        ap (λ (u : Memory). session_of u pair) (brings_into h) ∙ in-its-row ∙ ap (λ (o : Option Session). after o (number_of d) (seven_of d)) (sym (session_at m pair h))

  -- its own pair's session, and every other's
  pub brings_own : session_of (event m (Brings pair d)) pair ≡ after (session_of m pair) (number_of d) (seven_of d)
  brings_own =
      elim (dec_lt there 8) [
        | yes h ↦ after_own h
        | no h ↦ let none_there = session_none m pair (omega arith) in
            ap (λ (u : Memory). session_of u pair) (brings_none (omega arith)) ∙ none_there ∙ ap (λ (o : Option Session). after o (number_of d) (seven_of d)) (sym none_there)
      ]

  pub brings_other : (q : ℕ) → (pair ≡ q → ⊥) → session_of (event m (Brings pair d)) q ≡ session_of m q
  brings_other q ne =
      elim (dec_lt there 8) [
        | yes h ↦ after-other h q ne
        | no h ↦ ap (λ (u : Memory). session_of u q) (brings_none (omega arith))
      ]

  brings_sane : Sane (event m (Brings pair d))
  brings_sane =
      elim (dec_lt there 8) [
        | yes h ↦ after_sane h
        | no h ↦ subst (λ (u : Memory). Sane u) (sym (brings_none (omega arith))) s
      ]

-- ---- any event

pub event_sane : (m : Memory) → Sane m → (e : Event) → Sane (event m e)
event_sane m s (Asks pair size pgn) = asks_sane m s pair size pgn
event_sane m s (Brings pair d) = brings_sane m s pair d

pub event-other : (m : Memory) → Sane m → (e : Event) (q : ℕ) → (subject e ≡ q → ⊥) → session_of (event m e) q ≡ session_of m q
event-other m s (Asks pair size pgn) q ne = asks_other m s pair size pgn q ne
event-other m s (Brings pair d) q ne = brings_other m s pair d q ne
