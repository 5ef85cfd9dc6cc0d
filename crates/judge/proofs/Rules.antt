-- Rules in order: the first that names a position is the judgement, and where none does the last word is. And a judgement that is made by searches,
-- rule after rule, is the first of a list of statements that applies, with its lowest position.
-- Assumes nothing.
use Prim.Native.Nat.{ℕ, zero, suc, ◌≤◌, ◌<◌}
use mathlib.Core.Path.{◌≡◌, refl, sym, ap, ◌∙◌}
use mathlib.Core.Bool.{Bool, true, false}
use mathlib.Core.List.{List, [], ◌∷◌}
use mathlib.Core.Logic.{◌⊎◌, inl, inr, ⊎_elim}
use native.Mathlib.Decide.{dec_lt}
use native.Mathlib.Omega.{arith}
use borrow.Author.Tests.{eqb-false, eq-eqb, ne_eqb}
use lib.Dec.{eqb}
use Rattle.answers.specs.Answers.{Judged, at}
use Rattle.words.specs.First.{first, any, lowest}
use Rattle.judge.specs.Judge.{first_named}
use Rattle.judge.specs.Usable.{Rule, Nowhere, NoneApplies, FirstApplies}
use Rattle.words.proofs.First.{first_below}
use Rattle.words.proofs.Lowest.{any-each, any_found}
use Rattle.words.proofs.Tests.{test, never}

-- a rule of the list that names a position has a number from 2 to 9 that is not 8, and its positions are at most n
abbrev pub Ruled : ℕ → List Judged → Type 0
Ruled n [] = Unit {0}
Ruled n (r ∷ rs) = ((2 ≤ r.number) × (r.number ≤ 9) × (r.number ≡ 8 → ⊥) × (r.position ≤ n)) × Ruled n rs

-- a judgement of n positions: 2 to 7 and 9 name one of them, and 0, 1 and 8 name none
pub record Named (n : ℕ) (j : Judged) : Type 0 where
  pub number : j.number ≤ 9
  pub some : 2 ≤ j.number → (j.number ≡ 8 → ⊥) → (1 ≤ j.position) × (j.position ≤ n)
  pub none : (j.number ≤ 1) ⊎ (j.number ≡ 8) → j.position ≡ 0

-- ---- the list

-- a rule that names no position is passed: the rest decides
pub skip : (k x : ℕ) (rs : List Judged) (last : Judged) → x ≡ 0 → first_named (at k x ∷ rs) last ≡ first_named rs last
unfolding first_named
skip k x rs last z = rw (eq-eqb x 0 z)

-- one that names a position, which is r, is the judgement
pub stop : (k r x : ℕ) (rs : List Judged) (last : Judged) → r ≡ x → (r ≡ 0 → ⊥) → first_named (at k x ∷ rs) last ≡ at k r
unfolding first_named
stop k r x rs last e h = rw (ne_eqb x 0 (λ z. h (e ∙ z))) (ap (at k) (sym e))

pub first-named : (n : ℕ) (rs : List Judged) (last : Judged) → Ruled n rs → Named n last → Named n (first_named rs last)
unfolding first_named
first-named n [] last u l = l
first-named n (r ∷ rs) last u l =
    test (eqb r.position 0) (λ t. rw t (first-named n rs last u.1 l))
    (λ f. rw f (record {
      number = u.0.1;
      some = λ a b. let z = eqb-false r.position 0 f in (omega (arith, z), u.0.3);
      none = λ h. absurd (⊎_elim (λ a. omega (arith, u.0.0)) u.0.2 h);
    }))

-- a judgement that names no position
pub nameless : (n k : ℕ) → k ≤ 9 → (2 ≤ k → (k ≡ 8 → ⊥) → ⊥) → Named n (at k 0)
nameless n k h out = record { number = h; some = λ l m. absurd (out l m); none = λ e. refl }

-- ---- rules as statements (specs/Usable.antt), whatever they say

-- what a search for a rule's lowest position finds: 0, and the rule applies nowhere; or the lowest position that it applies to
abbrev pub Finds : (ℕ → Type 0) → ℕ → Type 0
Finds r p = ((p ≡ 0) × Nowhere r) ⊎ ((1 ≤ p) × r p × ((q : ℕ) → q < p → r q → ⊥))

-- a judgement by a list of rules: 0, and none applies to any position; or the first that applies
pub record Decides (rs : List Rule) (j : Judged) : Type 0 where
  pub said : ((j ≡ at 0 0) × NoneApplies rs) ⊎ ((1 ≤ j.number) × FirstApplies rs j.number j.position)

module _ (k : ℕ) (r : ℕ → Type 0) (rs : List Rule) where
  -- where the first rule of a list applies nowhere, the rest decides
  pub rule_passed : (j : Judged) → Nowhere r → Decides rs j → Decides ((k, r) ∷ rs) j
  rule_passed j nowhere d = record { said = ⊎_elim (λ (e, clear). inl (e, (nowhere, clear))) (λ (l, f). inr (l, inr (nowhere, f))) d.said }

  -- the first rule of a list, by what its search found; the rest counts only where it applies nowhere
  pub rule_next : (js : List Judged) (last : Judged) (p : ℕ) → 1 ≤ k → Finds r p → (Nowhere r → Decides rs (first_named js last))
      → Decides ((k, r) ∷ rs) (first_named (at k p ∷ js) last)
  unfolding first_named
  rule_next js last p least-k found rest =
      ⊎_elim (λ (z, nowhere). rw (eq-eqb p 0 z) (rule_passed (first_named js last) nowhere (rest nowhere)))
      (λ (least, a, low). rw (ne_eqb p 0 (λ z. omega arith)) (record { said = inr (least-k, inl (refl, a, low)) }))
      found

-- where none applies, none is the first
pub none_first : (rs : List Rule) (k p : ℕ) → NoneApplies rs → FirstApplies rs k p → ⊥
none_first [] k p clear f = f
none_first (r ∷ rs) k p (nowhere, clear) f = ⊎_elim (λ (e, a, low). nowhere p a) (λ (_, g). none_first rs k p clear g) f

-- there is one lowest
one-lowest : (r : ℕ → Type 0) (p p' : ℕ) → r p → ((q : ℕ) → q < p → r q → ⊥) → r p' → ((q : ℕ) → q < p' → r q → ⊥) → p ≡ p'
one-lowest r p p' a low a' low' = go (dec_lt p p') (dec_lt p' p)
  where
    go : Dec (p < p') → Dec (p' < p) → p ≡ p'
    go (yes l) d = absurd (low' p l a)
    go (no l) (yes m) = absurd (low p' m a')
    go (no l) (no m) = omega arith

-- there is one first that applies
pub one-first : (rs : List Rule) (k p k' p' : ℕ) → FirstApplies rs k p → FirstApplies rs k' p' → (k ≡ k') × (p ≡ p')
one-first [] k p k' p' f g = absurd f
one-first (r ∷ rs) k p k' p' f g =
    ⊎_elim
    (λ (e, a, low). ⊎_elim (λ (e', a', low'). (sym e ∙ e', one-lowest r.1 p p' a low a' low')) (λ (nowhere, _). absurd (nowhere p a)) g)
    (λ (nowhere, h). ⊎_elim (λ (e', a', low'). absurd (nowhere p' a')) (λ (_, h'). one-first rs k p k' p' h h') g)
    f

-- the search `lowest` finds a rule's lowest position where its test, by index, is the rule
pub finds : (t : ℕ → Bool) (n : ℕ) (r : ℕ → Type 0) → ((i : ℕ) → i < n → t i ≡ true → r (suc i)) → (r 0 → ⊥) → ((i : ℕ) → r (suc i) → (i < n) × (t i ≡ true)) → Finds r (lowest t n)
unfolding lowest
finds t n r there zeroth back =
    test (any t n) (λ y. let (l, h) = any_found t n y in rw y (inr (omega arith, there (first t n) l h, below)))
    (λ y. rw y (inl (refl, nowhere y)))
  where
    below : (q : ℕ) → q < suc (first t n) → r q → ⊥
    below zero l a = zeroth a
    below (suc q) l a = never (back q a).1 (first_below t n q (omega arith))

    nowhere : any t n ≡ false → Nowhere r
    nowhere y zero a = zeroth a
    nowhere y (suc q) a = let (l, h) = back q a in never h (any-each t n y q l)
