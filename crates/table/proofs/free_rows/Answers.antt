-- `free_rows`: of the rows below i every one is freed that held the key. Assumes nothing.
use mathlib.Core.Path.{◌≡◌, refl, ap, ◌∙◌}
use mathlib.Core.List.{List}
use Prim.Native.Nat.{ℕ, ◌*◌}
use native.Mathlib.Numerals.{add-one}
use native.Mathlib.Omega.{arith}
use borrow.Author.Rules.{rules}
use lib.ListN.{set}
use Rattle.history.specs.History.{most_keys}
use Rattle.keyrow.specs.Row.{row_words}
use Rattle.table.specs.Forget.{free_row, free_to}
use Rattle.table.proofs.Words.{free-word}
use Rattle.table.proofs.free_rows.Goals as goal

pub loop-i-init : goal.loop-i-init
unfolding free_to
loop-i-init c = refl

pub loop-i-preserved : goal.loop-i-preserved
unfolding free_to
loop-i-preserved c =
    let i = c.loop-i.i in
    rw add-one
    (ap (λ (v : ℕ). set c.loop-i.t (i * row_words) v) c.state_without.ensures
    ∙ free-word c.loop-i.t (search rules) i c.args.key (omega arith)
    ∙ ap (λ (u : List ℕ). free_row u c.args.key i) c.loop-i.invariant)

pub returns : goal.returns
returns c =
    let e : c.loop-i.i ≡ most_keys = omega arith in
    c.loop-i.invariant ∙ ap (free_to c.args.t.now c.args.key) e
