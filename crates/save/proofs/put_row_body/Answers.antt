-- `save::put_row_body`: the positions from i on, laid after what there is, make the page that all of them make. Assumes nothing.
use Prim.Native.Nat.{ℕ, ◌+◌, ◌-◌}
use mathlib.Core.Path.{◌≡◌, refl, ap, ◌∙◌}
use native.Mathlib.Omega.{arith}
use Rattle.text.specs.Text.{put_all}
use Rattle.text.specs.Page.{held}
use Rattle.message.specs.declared.Head.{Head}
use Rattle.message.specs.declared.Place.{Place}
use Rattle.keyrow.specs.View.{place_in}
use Rattle.written.specs.Written.{five_of}
use Rattle.save.specs.Pieces.{body_pieces}
use Rattle.save.proofs.Pieces.{body_turn, body_end}
use Rattle.save.proofs.put_row_body.Goals as goal

pub loop-i-init : goal.loop-i-init
loop-i-init c =
    let h = c.head_of-head.result in
    let e : h.n - 0 ≡ h.n = omega arith in
    (refl, ap (λ (n : ℕ). put_all (held c.args.page.now) (body_pieces h (place_in c.args.row.now) 1 n)) e)

pub loop-i-preserved : goal.loop-i-preserved
loop-i-preserved c =
    let h = c.head_of-head.result in
    let l = c.loop-i in
    let q = ap (λ (x : Place). five_of h (l.i + 1) x) c.place_at.ensures in
    let e = c.bytes.ensures in (
      e.same ∙ l.invariant.0,
      body_turn h (place_in c.args.row.now) (held l.page) (l.i + 1) (l.i + 1 + 1) (h.n - l.i) (h.n - (l.i + 1)) c.five_of-five.result _ (omega (arith, c.loop-i-test.true)) (omega arith) (c.five_of-five.ensures ∙ q) e.holds
          ∙ l.invariant.1,
    )

pub returns : goal.returns
returns c =
    let a = c.args in
    let h = c.head_of-head.result in
    let l = c.loop-i in
    record {
      same = l.invariant.0;
      holds = body_end h (place_in a.row.now) (held l.page) (l.i + 1) (h.n - l.i) (omega (arith, c.loop-i-test.false))
          ∙ l.invariant.1 ∙ ap (λ (x : Head). put_all (held a.page.now) (body_pieces x (place_in a.row.now) 1 x.n)) c.head_of-head.ensures;
    }
