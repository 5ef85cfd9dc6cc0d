-- `is_repeated`: whether the earlier SPNs have it. Assumes nothing.
use mathlib.Core.Path.{ap, ◌∙◌}
use Prim.Native.Nat.{ℕ}
use native.Mathlib.Omega.{arith}
use lib.Dec.{eqb}
use lib.ListN.{get_or}
use Rattle.words.specs.First.{any}
use Rattle.judge.proofs.Search.{any_listed}
use Rattle.judge.proofs.Listed.is_repeated.Goals as goal

pub returns : goal.returns
returns c =
    let a = c.args in
    c.contains.ensures.value ∙ any_listed _ a.self.spns.now a.i (omega (arith, a.self.has_spns))
    ∙ ap (λ (x : ℕ). any (λ j. eqb (get_or a.self.spns.now j 0) x) a.i) c.number_at-spn.ensures
