-- `is_again`: an SPN whose mark is not set was not passed. Assumes nothing.
use mathlib.Core.Path.{sym, ap, ◌∙◌}
use Prim.Native.Nat.{ℕ, ◌%◌}
use mathlib.Core.Bool.{false}
use lib.ListN.{get_or}
use Rattle.judge.proofs.Clear.{not_passed}
use Rattle.judge.proofs.Listed.is_again.Goals as goal

pub returns-then-not-seen-mark_of : goal.returns-then-not-seen-mark_of
returns-then-not-seen-mark_of c =
    let m = c.mark_of.ensures.0 ∙ ap (λ (x : ℕ). x % 256) c.number_at.ensures in
    sym (not_passed c.args.seen.now c.args.self.spns.now c.args.i c.requires.1 (ap (λ (k : ℕ). get_or c.args.seen.now k false) (sym m) ∙ c.if-not-seen-mark_of.true))
