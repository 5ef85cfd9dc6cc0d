-- Demand 3, from what is proved of a table after any history. Assumes nothing.
use Prim.Native.Nat.{ℕ, suc, ◌≤◌}
use native.Mathlib.Omega.{arith}
use mathlib.Core.Path.{◌≡◌, refl, sym, ap, ◌∙◌, fun_ext}
use mathlib.Core.Logic.{◌↔◌}
use mathlib.Core.Bool.{Bool, true, false, cond, not, and-eq-true_iff, and-false}
use mathlib.Core.List.{List, [], ◌∷◌}
use lib.ListN.{length}
use lib.Dec.{eqb}
use borrow.Author.Tests.{leb-true, leb-false, le-leb}
use Rattle.message.specs.declared.Key.{Key}
use Rattle.message.specs.declared.Message.{Message}
use Rattle.maps.specs.Maps.{same_key, conflict, Map, Nothing, Conflict, Held, map_of, learned, is_nothing, is_conflict}
use Rattle.words.proofs.Tests.{test, never}
use Rattle.maps.proofs.Tests.{key_eq}
use Rattle.history.specs.History.{most_keys, Event, Learn, Forget, Edition, names, is_empty, since, keys, no_room, is_edition, answer, kept, set_of, Few}
use Rattle.history.specs.Table.{Table, full, number, after}
use Rattle.history.proofs.Follows.{Calls, follows, answers}
use Rattle.history.proofs.Keys.{has, without_le, without-one, has-keys, keys-once}

-- ---- which events are answered 9

pub ten_or_zero : (c : Bool) → eqb (cond {A = ℕ} c 10 0) 9 ≡ false
ten_or_zero true = refl
ten_or_zero false = refl

eleven_or_zero : (c : Bool) → eqb (cond {A = ℕ} c 11 0) 9 ≡ false
eleven_or_zero true = refl
eleven_or_zero false = refl

-- an edition is answered 11, 27 or 0
no_nine : (c d : Bool) → eqb (cond {A = ℕ} c 11 (cond d 0 27)) 9 ≡ false
no_nine true d = refl
no_nine false true = refl
no_nine false false = refl

pub nine_if_full : (t : Table) (m : Message) → eqb (number t (Learn m)) 9 ≡ full t m.key
nine_if_full t m = test (full t m.key) (λ e. rw e) (λ f. rw f (ten_or_zero (is_conflict (learned (t.look m.key) m))))

pub never_nine : (t : Table) (k : Key) → eqb (number t (Forget k)) 9 ≡ false
never_nine t k = eleven_or_zero (is_nothing (t.look k))

pub edition_nine : (t : Table) (k : Key) (e : ℕ) → eqb (number t (Edition k e)) 9 ≡ false
edition_nine t k e = no_nine (is_nothing (t.look k)) (is_edition e)

-- ---- every answer is the defined one, and what is held of a key is the map of its set, whatever the history

pub answered : {h : List Event} {t : Table} → Calls h t → (e : Event) → number t e ≡ answer (kept h) e
answered {h} {t} c e = answers t (kept h) (follows c) e

pub row_is_lem : {h : List Event} {t : Table} → Calls h t → (k : Key) → t.look k ≡ map_of (set_of h k)
row_is_lem c k = (follows c).rows k

-- ---- where at no moment more than 16 keys have messages, none is left out

-- a message that keeps within 16 keys has room
pub room : (h : List Event) (m : Message) → length (keys (Learn m ∷ h)) ≤ most_keys → no_room h m.key ≡ false
unfolding no_room
room h m b =
    test (no_room h m.key)
    (λ t. let (e, f) = (and-eq-true_iff (is_empty (since h m.key)) _).0 t in absurd (omega (arith, rw e at b, leb-true most_keys (length (keys h)) f)))
    (λ f. f)

not_nine : (h : List Event) (e : Event) → length (keys (e ∷ h)) ≤ most_keys → eqb (answer h e) 9 ≡ false
not_nine h (Learn m) b = rw (room h m b) (ten_or_zero (conflict (m ∷ since h m.key)))
not_nine h (Forget k) b = eleven_or_zero (is_empty (since h k))
not_nine h (Edition k e) b = no_nine (is_empty (since h k)) (is_edition e)

pub all_kept : (h : List Event) → Few h → kept h ≡ h
all_kept [] u = refl
all_kept (e ∷ h) u = rw (all_kept h u.1, not_nine h e u.0)

-- demand 3: what is held of a key, and the answer to an event, from the messages that name the key since its last forget
pub demand_row : {h : List Event} {t : Table} → Calls h t → Few h → (k : Key) → t.look k ≡ map_of (since h k)
demand_row {h} c u k = row_is_lem c k ∙ ap (λ (g : List Event). map_of (since g k)) (all_kept h u)

-- ---- an event that names another key leaves what is held of a key

pub isolated : (t : Table) (e : Event) (k : Key) → names k e ≡ false → after t e k ≡ t.look k
isolated t e k f = rw (f, and-false (not (eqb (number t e) 9)))

nothing_at : (M : Map) → is_nothing M ≡ true → M ≡ Nothing
nothing_at Nothing e = refl
nothing_at Conflict e = never e refl
nothing_at (Held h at) e = never e refl

-- a refusal, 9 or 11, changes nothing
pub refused : (t : Table) (m : Message) → full t m.key ≡ true → (number t (Learn m) ≡ 9) × (after t (Learn m) ≡ t.look)
refused t m e = (rw e, fun_ext (λ k. rw e))

pub not-held : (t : Table) (k : Key) → is_nothing (t.look k) ≡ true → (number t (Forget k) ≡ 11) × (after t (Forget k) ≡ t.look)
not-held t k e = (rw e, fun_ext (λ j. rw e (test (same_key k j) (λ s. rw (s, ← (key_eq k j s)) (sym (nothing_at (t.look k) e))) (λ f. rw f))))

-- ---- answer 9 exactly where the key is new and 16 keys are held; and never are more than 16 held

empty_is : (s : List Message) → (is_empty s ≡ true) ↔ (s ≡ [])
empty_is [] = (λ e. refl, λ e. refl)
empty_is (m ∷ s) = (λ e. never e refl, λ e. ap is_empty e)

-- what answer 9 says
pub no_room-is : (h : List Event) (k : Key) → (no_room h k ≡ true) ↔ ((since h k ≡ []) × (most_keys ≤ length (keys h)))
unfolding no_room
no_room-is h k = (
  λ t. let (e, f) = (and-eq-true_iff (is_empty (since h k)) _).0 t in ((empty_is (since h k)).0 e, leb-true most_keys (length (keys h)) f),
  λ u. (and-eq-true_iff (is_empty (since h k)) _).1 ((empty_is (since h k)).1 u.0, le-leb most_keys (length (keys h)) u.1),
)

is_nine : (b c : Bool) → (cond {A = ℕ} b 9 (cond c 10 0) ≡ 9) ↔ (b ≡ true)
is_nine true c = (λ e. refl, λ e. refl)
is_nine false true = (λ e. absurd (omega arith), λ e. never e refl)
is_nine false false = (λ e. absurd (omega arith), λ e. never e refl)

-- a key that has room makes at most 16
has_room : (h : List Event) (m : Message) → no_room h m.key ≡ false → length (keys h) ≤ most_keys → length (keys (Learn m ∷ h)) ≤ most_keys
unfolding no_room
has_room h m f b =
    test (is_empty (since h m.key)) (λ e. rw e (omega (arith, leb-false most_keys (length (keys h)) (rw e at f)))) (λ n. rw n b)

-- never are more than 16 keys held
pub at_most : (h : List Event) → length (keys (kept h)) ≤ most_keys
at_most [] = omega arith
at_most (Learn m ∷ h) =
    test (no_room (kept h) m.key) (λ t. rw t (at_most h))
    (λ f. rw (f, ten_or_zero (conflict (m ∷ set_of h m.key))) (has_room (kept h) m f (at_most h)))
at_most (Forget k ∷ h) = rw (eleven_or_zero (is_empty (set_of h k))) (omega (arith, without_le k (keys (kept h)), at_most h))
at_most (Edition k e ∷ h) = rw (no_nine (is_empty (set_of h k)) (is_edition e)) (at_most h)

pub nine : {h : List Event} {t : Table} → Calls h t → (m : Message) → (number t (Learn m) ≡ 9) ↔ ((set_of h m.key ≡ []) × (length (keys (kept h)) ≡ most_keys))
nine {h} {t} s m =
    let b = no_room (kept h) m.key in
    let c = conflict (m ∷ set_of h m.key) in (
      λ e. let (n, l) = (no_room-is (kept h) m.key).0 ((is_nine b c).0 (sym (answered s (Learn m)) ∙ e)) in (n, omega (arith, at_most h)),
      λ u. answered s (Learn m) ∙ (is_nine b c).1 ((no_room-is (kept h) m.key).1 (u.0, omega (arith, u.1))),
    )

-- ---- a forget makes room

pub kept_forget : (h : List Event) (k : Key) → kept (Forget k ∷ h) ≡ Forget k ∷ kept h
kept_forget h k = rw (eleven_or_zero (is_empty (set_of h k)))

pub kept-edition : (h : List Event) (k : Key) (e : ℕ) → kept (Edition k e ∷ h) ≡ Edition k e ∷ kept h
kept-edition h k e = rw (no_nine (is_empty (set_of h k)) (is_edition e))

-- where a held key is forgotten, one key less is held
pub one_less : (h : List Event) (k : Key) → (set_of h k ≡ [] → ⊥) → suc (length (keys (kept (Forget k ∷ h)))) ≡ length (keys (kept h))
one_less h k held = rw (kept_forget h k) (without-one k (keys (kept h)) (keys-once (kept h)) there)
  where
    there : has k (keys (kept h)) ≡ true
    there = has-keys (kept h) k ∙ test (is_empty (set_of h k)) (λ e. absurd (held ((empty_is (set_of h k)).0 e))) (λ n. rw n)

-- so no key is refused for want of room
pub freed : (h : List Event) (k j : Key) → (set_of h k ≡ [] → ⊥) → no_room (kept (Forget k ∷ h)) j ≡ false
freed h k j held =
    test (no_room (kept (Forget k ∷ h)) j) (λ t. absurd (omega (arith, ((no_room-is (kept (Forget k ∷ h)) j).0 t).1, one_less h k held, at_most h))) (λ f. f)
