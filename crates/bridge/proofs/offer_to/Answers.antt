-- `bridge::offer_to` meets its contract: what the filter says, then what the queue says, counted at the pair. Assumes nothing.
use mathlib.Core.Path.{sym, ap, ◌∙◌}
use Prim.Native.Nat.{ℕ}
use Rattle.queue.specs.Row.{enters_at}
use Rattle.bridge.specs.Bridge.{Bridge, bridge}
use Rattle.bridge.proofs.Calls.{is-filtered, is-queued, is_turned, counted_is}
use Rattle.bridge.proofs.offer_to.Goals as goal

pub returns-then-enter : goal.returns-then-enter
returns-then-enter c =
    let found : Bridge = bridge c.args.c.now c.args.q.now in
    counted_is (found) _ _ _ _ _
    (is-queued _ _ _ (sym c.lets_pass.ensures ∙ c.if-lets_pass.true) _ _ c.if-enter.true (c.enter.ensures ∙ ap (λ (t : ℕ). enters_at c.args.q.now t c.args.word) c.end_of.ensures)) c.note.ensures

pub returns-then-lets_pass : goal.returns-then-lets_pass
returns-then-lets_pass c =
    let found : Bridge = bridge c.args.c.now c.args.q.now in
    counted_is (found) _ _ _ _ _
    (is_turned _ _ _ (sym c.lets_pass.ensures ∙ c.if-lets_pass.true) _ _ c.if-enter.false (c.enter.ensures ∙ ap (λ (t : ℕ). enters_at c.args.q.now t c.args.word) c.end_of.ensures)) c.note-then-lets_pass.ensures

pub returns : goal.returns
returns c =
    let found : Bridge = bridge c.args.c.now c.args.q.now in
    counted_is (found) _ _ _ _ _ (is-filtered _ _ _ (sym c.lets_pass.ensures ∙ c.if-lets_pass.false)) c.note-2.ensures
