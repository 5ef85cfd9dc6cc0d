-- Finding in an opened map: the position of an SPN, and what stands there, by the lists. Assumes nothing.
use Prim.Native.Nat.{ℕ, ◌+◌, ◌≤◌, ◌<◌}
use mathlib.Core.Path.{◌≡◌, refl, sym, ap, ◌∙◌}
use mathlib.Core.Bool.{true}
use mathlib.Core.List.{List}
use lib.Dec.{eqb}
use lib.ListN.{get_or}
use native.Mathlib.Omega.{arith}
use Rattle.words.specs.First.{lowest}
use Rattle.words.proofs.Lowest.{lowest_equal}
use Rattle.message.specs.declared.Key.{Key}
use Rattle.judge.specs.Judge.{start_in, width_in, spn_at, usable, count_of, params_of}
use Rattle.lookup.specs.View.{map_in}
use Rattle.open.specs.Open.{width_for, Opening, map_as, opened_by}
use Rattle.open.proofs.InHand.{answer-is, n-is, n_few, spn-at, start-at, width-at}
use Rattle.answers.specs.Answers.{Said, plain}
use native.Mathlib.Numerals.{add-one}
use Rattle.ask.specs.Ask.{not_found, position_of, found_by}
use Rattle.ask.specs.Parts.{ready_by}
use Rattle.ask.proofs.Calls.{ready_good, find_absent, find_here}

module _ (t : List ℕ) (k : Key) (o : Opening) (spns starts widths : List ℕ) (e : o ≡ opened_by (width_for t k) (map_in t k) (map_as t k) spns starts widths)
    (u : usable (width_for t k) (map_in t k) ≡ true) where
  -- the position of an SPN, by the list of SPNs
  pub position-is : (spn : ℕ) → lowest (λ i. eqb (get_or o.spns i 0) spn) o.n ≡ position_of (width_for t k) (map_in t k) spn
  unfolding position_of
  position-is spn =
      rw (n-is t k o spns starts widths e u)
      (lowest_equal _ (λ i. eqb (spn_at (params_of (width_for t k) (map_in t k)) i) spn) _ (λ i l. ap (λ (x : ℕ). eqb x spn) (spn-at t k o spns starts widths e u i l)))

  -- start and width at an index
  module _ (i : ℕ) (inside : i < o.n) where
    lies : i < count_of (map_in t k)
    lies = omega (arith, n-is t k o spns starts widths e u)

    pub start_found : get_or o.starts i 0 ≡ start_in (params_of (width_for t k) (map_in t k) (i + 1))
    start_found = start-at t k o spns starts widths e u i lies ∙ ap (λ (q : ℕ). start_in (params_of (width_for t k) (map_in t k) q)) (sym (add-one i))

    pub width_found : get_or o.widths i 0 ≡ width_in (params_of (width_for t k) (map_in t k) (i + 1))
    width_found = width-at t k o spns starts widths e u i lies ∙ ap (λ (q : ℕ). width_in (params_of (width_for t k) (map_in t k) q)) (sym (add-one i))

-- in an opened map that the tests 11 and 12 let pass
module _ (t : List ℕ) (k : Key) (o : Opening) (spns starts widths : List ℕ) (e : o ≡ opened_by (width_for t k) (map_in t k) (map_as t k) spns starts widths)
    (passed : ready_by o.answer ≡ plain 0) where
  good : usable (width_for t k) (map_in t k) ≡ true
  good = ready_good _ _ o.answer (answer-is t k o spns starts widths e) passed

  pub few : o.n ≤ 64
  few = n_few t k o spns starts widths e good

  pub index_inside : (i : ℕ) → i < o.n → i < 64
  index_inside i l = omega (arith, few)

  module _ (spn : ℕ) (a : Said) where
    pub nowhere_found : lowest (λ i. eqb (get_or o.spns i 0) spn) o.n ≡ 0 → a ≡ plain 18 → not_found a ≡ found_by (width_for t k) (map_in t k) spn
    nowhere_found z q = find_absent _ _ good spn a 0 (sym (position-is t k o spns starts widths e good spn) ∙ z) refl q

    pub found_here : (i : ℕ) → (lowest (λ i. eqb (get_or o.spns i 0) spn) o.n ≡ i + 1) × (i < o.n) → a ≡ plain 0
        → record { answer = a; position = i + 1; start = get_or o.starts i 0; width = get_or o.widths i 0 } ≡ found_by (width_for t k) (map_in t k) spn
    found_here i h q =
        find_here _ _ good spn a (i + 1) (sym (position-is t k o spns starts widths e good spn) ∙ h.0) (λ z. omega arith) q _ _
        (start_found t k o spns starts widths e good i h.1) (width_found t k o spns starts widths e good i h.1)
