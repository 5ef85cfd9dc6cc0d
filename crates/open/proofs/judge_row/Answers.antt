-- `judge_row`: the judge's own promise of the lists that the row unfolds to. Assumes nothing.
use Prim.Native.Nat.{ℕ}
use mathlib.Core.Path.{◌≡◌, ap, ◌∙◌}
use borrow.Author.Rules.{rules}
use Rattle.message.specs.declared.Head.{Head}
use Rattle.judge.specs.Judge.{spn_in, start_in}
use Rattle.keyrow.specs.Row.{form_word}
use Rattle.keyrow.specs.View.{head_of}
use Rattle.open.specs.Open.{marked_width, reach}
use Rattle.open.specs.Unfolded.{unfolded}
use Rattle.open.proofs.Unfolded.{row-judged}
use Rattle.open.proofs.judge_row.Goals as goal

pub returns : goal.returns
returns c =
    let far : c.reach_of.result ≡ reach (head_of (form_word c.args.row.now)).n = c.reach_of.ensures.0 ∙ ap (λ (h : Head). reach h.n) c.head_of-head.ensures in
    let a = c.args in
    let row = a.row.now in
    let e = c.unfold_row.ensures in
    let spns = e.0 ∙ ap (λ (k : ℕ). unfolded spn_in row k a.spns.now) (far) in
    let starts = e.1 ∙ ap (λ (k : ℕ). unfolded start_in row k a.starts.now) (far) in
    let widths = e.2 ∙ ap (λ (k : ℕ). unfolded marked_width row k a.widths.now) (far) in (
      row-judged row a.spns.now a.starts.now a.widths.now _ _ _ _ _ _ (search rules, search rules, search rules) (ap (λ (h : Head). h.n) c.head_of-head.ensures)
          (ap (λ (h : Head). h.transport) c.head_of-head.ensures) spns starts widths c.judge.ensures,
      spns,
      starts,
      widths,
    )
