-- Laws of tests in order, over any list of tests. Assumes nothing.
use Prim.Native.Nat.{ℕ, ◌≤◌}
use mathlib.Core.Path.{◌≡◌, refl, sym, ap, ◌∙◌}
use mathlib.Core.Bool.{Bool, true, false, cond, not, ◌&&◌, ◌||◌, true≢false, or-true}
use mathlib.Core.List.{List, [], ◌∷◌, ◌++◌}
use lib.Dec.{T, eqb, leb}
use borrow.Author.Tests.{eq-eqb, leb-true}
use Rattle.answers.specs.Answers.{Said, Outcome, outcome}
use Rattle.answers.specs.Tests.{Test, in_order, first_number_of, tested}

-- none of the tests applies
abbrev pub None : {A : Type 0} → List (Test A) → Type 0
None [] = Unit {0}
None (t ∷ ts) = (t.applies ≡ false) × None ts

-- a test by its two answers, each with its equation
by {ℓ} : {X : Type ℓ} (b : Bool) → (b ≡ true → X) → (b ≡ false → X) → X
by true f g = f refl
by false f g = g refl

-- ---- tests with any answers

-- where none applies, the rest decides
pub all_pass : {A B : Type 0} (refuse : A → B) (ts : List (Test A)) (rest : B) → None ts → in_order refuse ts rest ≡ rest
all_pass refuse [] rest n = refl
all_pass refuse (t ∷ ts) rest n = rw n.0 (all_pass refuse ts rest n.1)

-- what holds of every refusal and of the rest, holds of the call
pub each_way : {A B : Type 0} (P : B → Type 0) (refuse : A → B) (ts : List (Test A)) (rest : B) → ((a : A) → P (refuse a)) → P rest → P (in_order refuse ts rest)
each_way P refuse [] rest f p = p
each_way P refuse (t ∷ ts) rest f p = by t.applies (λ e. rw e (f t.answer)) (λ e. rw e (each_way P refuse ts rest f p))

-- a function of the answer goes inside
pub through : {A B C : Type 0} (f : B → C) (refuse : A → B) (ts : List (Test A)) (rest : B) → f (in_order refuse ts rest) ≡ in_order (λ a. f (refuse a)) ts (f rest)
through f refuse [] rest = refl
through f refuse (t ∷ ts) rest = by t.applies (λ e. rw e) (λ e. rw e (through f refuse ts rest))

-- a list of tests goes on in the next one
pub then : {A B : Type 0} (refuse : A → B) (ts us : List (Test A)) (rest : B) → in_order refuse (ts ++ us) rest ≡ in_order refuse ts (in_order refuse us rest)
then refuse [] us rest = refl
then refuse (t ∷ ts) us rest = ap (cond t.applies (refuse t.answer)) (then refuse ts us rest)

-- ---- tests that give numbers

-- no test gives the number 0, which stands for "none applies"
abbrev pub numbered : List (Test ℕ) → Bool
numbered [] = true
numbered (t ∷ ts) = not (eqb t.answer 0) && numbered ts

-- where none applies, the later tests decide, whatever they give
pub passed : (ts : List (Test ℕ)) → T (numbered ts) → first_number_of ts 0 ≡ 0 → (later : ℕ) → first_number_of ts later ≡ later
passed [] h e later = refl
passed (t ∷ ts) h e later = go t.applies (eqb t.answer 0) refl h e (λ g d. passed ts g d later)
  where
    go : (a z : Bool) → eqb t.answer 0 ≡ z → T (not z && numbered ts) → cond a t.answer (first_number_of ts 0) ≡ 0
        → (T (numbered ts) → first_number_of ts 0 ≡ 0 → first_number_of ts later ≡ later) → cond a t.answer (first_number_of ts later) ≡ later
    go true true q h e ih = absurd h
    go true false q h e ih = absurd (true≢false (sym (eq-eqb _ _ e) ∙ q))
    go false true q h e ih = absurd h
    go false false q h e ih = ih h e

-- where one applies, nothing later counts
pub stopped : (ts : List (Test ℕ)) → (first_number_of ts 0 ≡ 0 → ⊥) → (later : ℕ) → first_number_of ts later ≡ first_number_of ts 0
stopped [] h later = absurd (h refl)
stopped (t ∷ ts) h later = go t.applies h (stopped ts)
  where
    go : (a : Bool) → (cond a t.answer (first_number_of ts 0) ≡ 0 → ⊥) → ((first_number_of ts 0 ≡ 0 → ⊥) → (later : ℕ) → first_number_of ts later ≡ first_number_of ts 0)
        → cond a t.answer (first_number_of ts later) ≡ cond a t.answer (first_number_of ts 0)
    go true h ih = refl
    go false h ih = ih h later

-- the first that applies is 0 exactly where none applies
pub none_applies : (ts : List (Test ℕ)) → T (numbered ts) → first_number_of ts 0 ≡ 0 → None ts
none_applies [] h e = tt
none_applies (t ∷ ts) h e = go t.applies (eqb t.answer 0) refl refl h e (none_applies ts)
  where
    go : (a z : Bool) → t.applies ≡ a → eqb t.answer 0 ≡ z → T (not z && numbered ts) → cond a t.answer (first_number_of ts 0) ≡ 0
        → (T (numbered ts) → first_number_of ts 0 ≡ 0 → None ts) → (t.applies ≡ false) × None ts
    go a true p q h e ih = absurd h
    go true false p q h e ih = absurd (true≢false (sym (eq-eqb _ _ e) ∙ q))
    go false false p q h e ih = (p, ih h e)

pub applies_none : (ts : List (Test ℕ)) → None ts → first_number_of ts 0 ≡ 0
applies_none ts n = all_pass (λ x. x) ts 0 n

-- whether no test gives a number above a bound
abbrev all_to : ℕ → List (Test ℕ) → Bool
all_to most [] = true
all_to most (t ∷ ts) = leb t.answer most && all_to most ts

-- the number of the first test that applies is then none above it
pub bounded : (most : ℕ) (ts : List (Test ℕ)) → T (all_to most ts) → (later : ℕ) → later ≤ most → first_number_of ts later ≤ most
bounded most [] h later l = l
bounded most (t ∷ ts) h later l = go t.applies (leb t.answer most) refl h (bounded most ts)
  where
    go : (a b : Bool) → leb t.answer most ≡ b → T (b && all_to most ts) → (T (all_to most ts) → (later : ℕ) → later ≤ most → first_number_of ts later ≤ most)
        → cond a t.answer (first_number_of ts later) ≤ most
    go a false q h ih = absurd h
    go true true q h ih = leb-true t.answer most q
    go false true q h ih = ih h later l

-- ---- calls that are lent memory

-- whether a number is one of a list
abbrev pub one_of : ℕ → List ℕ → Bool
one_of n [] = false
one_of n (x ∷ xs) = eqb n x || one_of n xs

-- the numbers that a list of tests can give, by the number of an answer
abbrev pub numbers_by : {A : Type 0} → (A → ℕ) → List (Test A) → List ℕ
numbers_by number_of [] = []
numbers_by number_of (t ∷ ts) = number_of t.answer ∷ numbers_by number_of ts

-- "an answer from a fixed list": a call's number is one of its tests', or that of the rest
pub from_list : {A B : Type 0} (number_of : A → ℕ) (number : B → ℕ) (refuse : A → B) → ((a : A) → number (refuse a) ≡ number_of a) → (ts : List (Test A)) (rest : B)
    → one_of (number (in_order refuse ts rest)) (number rest ∷ numbers_by number_of ts) ≡ true
from_list number_of number refuse same [] rest = rw (eq-eqb (number rest) (number rest) refl)
from_list number_of number refuse same (t ∷ ts) rest = go t.applies (from_list number_of number refuse same ts rest)
  where
    later : (a b c : Bool) → (a || c) ≡ true → (a || (b || c)) ≡ true
    later true b c e = refl
    later false true c e = refl
    later false false c e = e

    go : (b : Bool) → one_of (number (in_order refuse ts rest)) (number rest ∷ numbers_by number_of ts) ≡ true
        → one_of (number (cond b (refuse t.answer) (in_order refuse ts rest))) (number rest ∷ number_of t.answer ∷ numbers_by number_of ts) ≡ true
    go true ih = rw (same t.answer, eq-eqb (number_of t.answer) (number_of t.answer) refl) (or-true (eqb (number_of t.answer) (number rest)))
    go false ih = later (eqb (number (in_order refuse ts rest)) (number rest)) (eqb (number (in_order refuse ts rest)) (number_of t.answer)) _ ih

-- of calls that answer with a record
pub from-answers : {B : Type 0} (number : B → ℕ) (refuse : Said → B) → ((a : Said) → number (refuse a) ≡ a.number) → (ts : List (Test Said)) (rest : B)
    → one_of (number (in_order refuse ts rest)) (number rest ∷ numbers_by (λ a. a.number) ts) ≡ true
from-answers number refuse same = from_list (λ a. a.number) number refuse same

-- of tests that give numbers
pub from-numbers : (ts : List (Test ℕ)) (later : ℕ) → one_of (first_number_of ts later) (later ∷ numbers_by (λ n. n) ts) ≡ true
from-numbers ts later = from_list (λ n. n) (λ n. n) (λ n. n) (λ n. refl) ts later

-- where the number is not that of the rest, the call leaves what each refusal leaves
pub leaving : {B M : Type 0} (number : B → ℕ) (memory : B → M) (refuse : Said → B) (held : M) → ((a : Said) → memory (refuse a) ≡ held) → (ts : List (Test Said)) (rest : B)
    → (number (in_order refuse ts rest) ≡ number rest → ⊥) → memory (in_order refuse ts rest) ≡ held
leaving number memory refuse held same [] rest h = absurd (h refl)
leaving number memory refuse held same (t ∷ ts) rest h =
    by t.applies (λ e. rw e (same t.answer)) (λ e. rw e (leaving number memory refuse held same ts rest (rw e at h)))

-- "A refusal leaves every table and every lent buffer as found": no word or byte has changed
pub leaves : (ts : List (Test Said)) (memory : List ℕ) (rest : Outcome) → ((tested ts memory rest).answer.number ≡ rest.answer.number → ⊥)
    → (tested ts memory rest).memory ≡ memory
leaves ts memory rest = leaving (λ (o : Outcome). o.answer.number) (λ (o : Outcome). o.memory) (λ a. outcome a memory) memory (λ a. refl) ts rest

-- ---- each number exactly where its test says

-- whether none of the tests gives the number
abbrev pub none_gives : ℕ → List (Test Said) → Bool
none_gives k [] = true
none_gives k (t ∷ ts) = not (eqb t.answer.number k) && none_gives k ts

both : (b c : Bool) → T (b && c) → T b × T c
both true c h = (tt, h)
both false c h = absurd h

differs : (n k : ℕ) → T (not (eqb n k)) → n ≡ k → ⊥
differs n k h e = rw (eq-eqb n k e) at h

module _ {B : Type 0} (number : B → ℕ) (refuse : Said → B) (same : (a : Said) → number (refuse a) ≡ a.number) (k : ℕ) where
  -- a number that no test gives comes only where none applies
  pub only_rest : (ts : List (Test Said)) (rest : B) → T (none_gives k ts) → number (in_order refuse ts rest) ≡ k → None ts × (number rest ≡ k)
  only_rest [] rest h e = (tt, e)
  only_rest (t ∷ ts) rest h e =
      let (d, g) = both (not (eqb t.answer.number k)) (none_gives k ts) h in
      by t.applies (λ y. absurd (differs t.answer.number k d (sym (same t.answer) ∙ rw y at e)))
      (λ n. let (m, r) = only_rest ts rest g (rw n at e) in ((n, m), r))

  module _ (t : Test Said) (after : List (Test Said)) (rest : B) where
    -- a number that one test alone gives comes only where that test applies and none before it does
    pub only_at : (before : List (Test Said)) → number (in_order refuse (before ++ (t ∷ after)) rest) ≡ k
        → T (none_gives k before) → T (none_gives k after) → T (not (eqb (number rest) k)) → None before × (t.applies ≡ true)
    only_at [] e b a r = (tt, by t.applies (λ y. y) (λ n. absurd (differs (number rest) k r (only_rest after rest a (rw n at e)).1)))
    only_at (x ∷ xs) e b a r =
        let (d, g) = both (not (eqb x.answer.number k)) (none_gives k xs) b in
        by x.applies (λ y. absurd (differs x.answer.number k d (sym (same x.answer) ∙ rw y at e)))
        (λ n. let (m, z) = only_at xs (rw n at e) g a r in ((n, m), z))

-- and there it does come
pub stops_at : {A B : Type 0} (refuse : A → B) (before : List (Test A)) (t : Test A) (after : List (Test A)) (rest : B) → None before → t.applies ≡ true
    → in_order refuse (before ++ (t ∷ after)) rest ≡ refuse t.answer
stops_at refuse [] t after rest n e = rw e
stops_at refuse (x ∷ xs) t after rest n e = rw n.0 (stops_at refuse xs t after rest n.1 e)
