use mathlib.Core.Path.{ap, ◌∙◌}
use Prim.Native.Nat.{ℕ, ◌*◌}
use Rattle.lookup.specs.View.{map_in}
use Rattle.image.proofs.Lengths.{body_length}
use borrow.Author.Rules.{rules}
use Rattle.save.proofs.body_len.Goals as goal

pub returns : goal.returns
returns c =
    let a = c.args in
    (ap (λ (n : ℕ). 5 * n) c.count.ensures ∙ body_length (map_in a.t.now a.key), search rules)
