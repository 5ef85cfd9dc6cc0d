-- The map of a set: it is one, and the same for all sets with the same members; one more message makes of it what `learned` says.
-- Assumes nothing.
use Prim.Native.Nat.{ℕ}
use mathlib.Core.Path.{◌≡◌, refl, sym, ap, ◌∙◌, fun_ext}
use mathlib.Core.Logic.{◌⊎◌, inl, inr, ⊎_elim}
use mathlib.Core.Bool.{Bool, true, false, ◌||◌, and-eq-true_iff}
use mathlib.Core.Option.{Option, none, some, none-ne-some, some-injective}
use mathlib.Core.List.Memᴰ
use mathlib.Core.List.{List, [], ◌∷◌, Memᴰ}
use borrow.Author.Tests.{eqb-true, eq-eqb}
use lib.Dec.{eqb}
use Rattle.message.specs.declared.Head.{Head}
use Rattle.message.specs.declared.Place.{Place}
use Rattle.message.specs.declared.Message.{Message}
use Rattle.maps.specs.Maps.{same_head, same_place, contradicts, some_of, conflict, place_at, Map, Nothing, Conflict, Held, map_of, Contradiction, Says, IsMap, agrees, places_with, agrees_with, learned, SameMembers}
use Rattle.words.proofs.Tests.{test, never}
use Rattle.maps.proofs.Tests.{and_false_cases, eqb_same, head_eq, place_eq, clash_head, clash_place, agree, no_clash}

-- ---- sets with the same members have one map

-- nothing that a map says is contradicted
says_agree : (s : List Message) (h : Head) (at : ℕ → Option Place) → Says s h at → (a b : Message) → Memᴰ a s → Memᴰ b s → contradicts a b ≡ false
says_agree s h at g a b i j =
    no_clash a b (g.head-is a i ∙ sym (g.head-is b j), λ q. some-injective _ _ (sym (g.place_is a i) ∙ ap at q ∙ g.place_is b j))

-- what one map says of a position, the other says too
says_more : (s t : List Message) (h k : Head) (f g : ℕ → Option Place) → ((m : Message) → Memᴰ m s → Memᴰ m t) → Says s h f → Says t k g → (p : ℕ) (x : Place) → f p ≡ some x → g p ≡ some x
says_more s t h k f g sub u v p x e =
    let (m, i, q, r) = u.only p x e in
    ap g (sym q) ∙ v.place_is m (sub m i) ∙ ap some r

same_at : (o o' : Option Place) → ((x : Place) → o ≡ some x → o' ≡ some x) → ((x : Place) → o' ≡ some x → o ≡ some x) → o ≡ o'
same_at none none f g = refl
same_at none (some y) f g = g y refl
same_at (some x) o' f g = sym (f x refl)

pub unique : (s t : List Message) → SameMembers s t → (M N : Map) → IsMap s M → IsMap t N → M ≡ N
unique s t same Nothing Nothing u v = refl
unique s t same Nothing Conflict u v = absurd (u v.one ((same v.one).1 v.one_in))
unique s t same Nothing (Held k g) u v = absurd (u v.first ((same v.first).1 v.first_in))
unique s t same Conflict Nothing u v = absurd (v u.one ((same u.one).0 u.one_in))
unique s t same Conflict Conflict u v = refl
unique s t same Conflict (Held k g) u v =
    never u.they (says_agree t k g v u.one u.other ((same u.one).0 u.one_in) ((same u.other).0 u.other_in))
unique s t same (Held h f) Nothing u v = absurd (v u.first ((same u.first).0 u.first_in))
unique s t same (Held h f) Conflict u v =
    never v.they (says_agree s h f u v.one v.other ((same v.one).1 v.one_in) ((same v.other).1 v.other_in))
unique s t same (Held h f) (Held k g) u v =
    let heads : h ≡ k = sym (u.head-is u.first u.first_in) ∙ v.head-is u.first ((same u.first).0 u.first_in) in
    let places : f ≡ g = fun_ext (λ p. same_at (f p) (g p) (says_more s t h k f g (λ m. (same m).0) u v p) (says_more t s k h g f (λ m. (same m).1) v u p)) in
    λ i. Held (heads i) (places i)

-- ---- `map_of` computes the map

some_true {ℓ} : {A : Type ℓ} (f : A → Bool) (l : List A) → some_of f l ≡ true → (x : A) × Memᴰ x l × (f x ≡ true)
some_true f [] e = never e refl
some_true f (x ∷ l) e =
    test (f x) (λ t. (x, Memᴰ.head refl, t)) (λ n. let (y, i, t) = some_true f l (rw n at e) in (y, Memᴰ.tail i, t))

some_false {ℓ} : {A : Type ℓ} (f : A → Bool) {x : A} {l : List A} → Memᴰ x l → some_of f l ≡ false → f x ≡ false
some_false f {x} {l} (Memᴰ.head {x = y} {xs = xs} q) e = test (f x) (λ t. never {b = f y || some_of f xs} (rw (← q, t)) e) (λ n. n)
some_false f {x} {l} (Memᴰ.tail {x = y} {xs = xs} i) e = some_false f i (test (f y) (λ t. never {b = f y || some_of f xs} (rw t) e) (λ n. rw n at e))

conflict_yes : (s : List Message) → conflict s ≡ true → Contradiction s
unfolding conflict
conflict_yes s e =
    let (a, i, f) = some_true (λ a. some_of (contradicts a) s) s e in
    let (b, j, g) = some_true (contradicts a) s f in
    record { one = a; other = b; one_in = i; other_in = j; they = g }

conflict_no : (s : List Message) → conflict s ≡ false → (a b : Message) → Memᴰ a s → Memᴰ b s → contradicts a b ≡ false
unfolding conflict
conflict_no s e a b i j = some_false (contradicts a) j (some_false (λ a. some_of (contradicts a) s) i e)

-- where a message of the set stands, the set has a message of the same position that is found there
found : (s : List Message) (x : Message) → Memᴰ x s → (y : Message) × Memᴰ y s × (y.position ≡ x.position) × (place_at s x.position ≡ some y.place)
found [] x i = absurd (Memᴰ.not-nil i)
found (m ∷ s) x i =
    test (eqb m.position x.position) (λ t. (m, Memᴰ.head refl, eqb-true _ _ t, rw t))
    (λ f. ⊎_elim (λ q. never (eq-eqb _ _ (ap (λ (y : Message). y.position) (sym q))) f)
    (λ j. let (y, k, q, r) = found s x j in (y, Memᴰ.tail k, q, rw f r))
    (Memᴰ.cases_cons i))

-- what is found stands in the set
found_only : (s : List Message) (p : ℕ) (x : Place) → place_at s p ≡ some x → (m : Message) × Memᴰ m s × (m.position ≡ p) × (m.place ≡ x)
found_only [] p x e = absurd (none-ne-some x e)
found_only (m ∷ s) p x e =
    test (eqb m.position p) (λ t. (m, Memᴰ.head refl, eqb-true _ _ t, some-injective _ _ (rw t at e)))
    (λ f. let (y, k, q, r) = found_only s p x (rw f at e) in (y, Memᴰ.tail k, q, r))

pub is-map : (s : List Message) → IsMap s (map_of s)
is-map [] = λ m i. Memᴰ.not-nil i
is-map (m ∷ s) = test (conflict (m ∷ s)) (λ t. rw t (conflict_yes (m ∷ s) t)) (λ f. rw f (says f))
  where
    says : conflict (m ∷ s) ≡ false → Says (m ∷ s) m.head (place_at (m ∷ s))
    says f = record {
      first = m;
      first_in = Memᴰ.head refl;
      head-is = λ x i. (agree x m (conflict_no (m ∷ s) f x m i (Memᴰ.head refl))).0;
      place_is = λ x i. let (y, j, q, r) = found (m ∷ s) x i in r ∙ ap some ((agree y x (conflict_no (m ∷ s) f y x j i)).1 q);
      only = found_only (m ∷ s);
    }

-- sets with the same members have the same map
pub same_map : (s t : List Message) → SameMembers s t → map_of s ≡ map_of t
same_map s t same = unique s t same (map_of s) (map_of t) (is-map s) (is-map t)

-- ---- one more message

-- what a set says with m, from what it says without, where m agrees with all of it
grow : (s : List Message) (m : Message) (h : Head) (at : ℕ → Option Place) → m.head ≡ h
    → ((x : Message) → Memᴰ x s → (x.head ≡ h) × (at x.position ≡ some x.place) × (m.position ≡ x.position → m.place ≡ x.place))
    → ((p : ℕ) (x : Place) → at p ≡ some x → (y : Message) × Memᴰ y s × (y.position ≡ p) × (y.place ≡ x))
    → Says (m ∷ s) h (places_with at m)
grow s m h at q old only = record {
  first = m;
  first_in = Memᴰ.head refl;
  head-is = λ x i. ⊎_elim (λ e. ap (λ (y : Message). y.head) e ∙ q) (λ j. (old x j).0) (Memᴰ.cases_cons i);
  place_is = λ x i. ⊎_elim (λ (e : x ≡ m). rw (e, eqb_same m.position)) (λ j. place x j) (Memᴰ.cases_cons i);
  only = λ p x e.
      test (eqb m.position p) (λ t. (m, Memᴰ.head refl, eqb-true _ _ t, some-injective _ _ (rw t at e)))
      (λ f. let (y, j, r, v) = only p x (rw f at e) in (y, Memᴰ.tail j, r, v));
}
  where
    place : (x : Message) → Memᴰ x s → places_with at m x.position ≡ some x.place
    place x j = test (eqb m.position x.position) (λ t. rw t (ap some ((old x j).2 (eqb-true _ _ t)))) (λ f. rw f (old x j).1)

agrees_eq : (o : Option Place) (x y : Place) → agrees o x ≡ true → o ≡ some y → x ≡ y
agrees_eq none x y e q = absurd (none-ne-some y q)
agrees_eq (some z) x y e q = sym (place_eq z x e) ∙ some-injective z y q

agrees_no : (o : Option Place) (x : Place) → agrees o x ≡ false → (y : Place) × (o ≡ some y) × (same_place y x ≡ false)
agrees_no none x e = never refl e
agrees_no (some z) x e = (z, refl, e)

one_more : (s : List Message) (m : Message) (M : Map) → IsMap s M → IsMap (m ∷ s) (learned M m)
unfolding agrees_with
one_more s m Nothing u = grow s m m.head (λ p. none) refl (λ x i. absurd (u x i)) (λ p x e. absurd (none-ne-some x e))
one_more s m Conflict u = record { one = u.one; other = u.other; one_in = Memᴰ.tail u.one_in; other_in = Memᴰ.tail u.other_in; they = u.they }
one_more s m (Held h at) u = test (agrees_with h at m) (λ t. rw t (fit t)) (λ f. rw f (unfit f))
  where
    fit : agrees_with h at m ≡ true → Says (m ∷ s) h (places_with at m)
    fit t =
        let (a, b) = (and-eq-true_iff (same_head h m.head) _).0 t in
        grow s m h at (sym (head_eq h m.head a))
        (λ x i. (u.head-is x i, u.place_is x i, λ q. agrees_eq (at m.position) m.place x.place b (ap at q ∙ u.place_is x i)))
        u.only

    unfit : agrees_with h at m ≡ false → Contradiction (m ∷ s)
    unfit f =
        ⊎_elim
        (λ a. record {
          one = u.first;
          other = m;
          one_in = Memᴰ.tail u.first_in;
          other_in = Memᴰ.head refl;
          they = clash_head u.first m (rw (u.head-is u.first u.first_in) a);
        })
        (λ b. let (y, e, n) = agrees_no (at m.position) m.place b in
        let (x, i, q, r) = u.only m.position y e in
        record { one = x; other = m; one_in = Memᴰ.tail i; other_in = Memᴰ.head refl; they = clash_place x m q (rw r n) })
        (and_false_cases (same_head h m.head) (agrees (at m.position) m.place) f)

-- what a program does with one more message is what the larger set says
pub map_more : (m : Message) (s : List Message) → map_of (m ∷ s) ≡ learned (map_of s) m
map_more m s = unique (m ∷ s) (m ∷ s) (λ x. (λ i. i, λ i. i)) (map_of (m ∷ s)) (learned (map_of s) m) (is-map (m ∷ s)) (one_more s m (map_of s) (is-map s))

-- ---- a held map and one message more

module _ (h : Head) (at : ℕ → Option Place) (m : Message) where
  -- it has the same head, and the message's place with those that stood there; or it is in conflict
  pub held_more : (learned (Held h at) m ≡ Held h (places_with at m)) ⊎ (learned (Held h at) m ≡ Conflict)
  held_more = test (agrees_with h at m) (λ t. inl (rw t)) (λ f. inr (rw f))

  -- where something stands at the message's position already, it is the same map, or in conflict
  pub held_same : (x : Place) → at m.position ≡ some x → (learned (Held h at) m ≡ Held h at) ⊎ (learned (Held h at) m ≡ Conflict)
  unfolding agrees_with
  held_same x e = test (agrees_with h at m) (λ t. inl (rw t (ap (Held h) (fun_ext (there t))))) (λ f. inr (rw f))
    where
      there : agrees_with h at m ≡ true → (p : ℕ) → places_with at m p ≡ at p
      there t p =
          let same = agrees_eq (at m.position) m.place x ((and-eq-true_iff (same_head h m.head) _).0 t).1 e in
          test (eqb m.position p) (λ q. rw (q, ← (eqb-true m.position p q), e, same)) (λ n. rw n)
