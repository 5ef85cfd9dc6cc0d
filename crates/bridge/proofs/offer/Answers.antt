-- `bridge::offer` meets its contract: three ports, one after another, which refuse it or are asked; or 15. Assumes nothing.
use Rattle.std.proofs.Common.{◌≡◌, ℕ, ◌-◌, ◌∙◌, ap, arith}
use Rattle.bridge.specs.Bridge.{bridge, other}
use Rattle.bridge.proofs.Calls.{pairs-from, number_fits, offer_is, refusals_are, offers_are, offers_none}
use Rattle.bridge.proofs.offer.Goals as goal

pub returns-in_err-port : goal.returns-in_err-port
returns-in_err-port c =
    let a = c.args in
    rw c.from_residual.ensures (offers_none (bridge a.c.now a.q.now) a.w.now a.from a.id c.in_err-port.ensures)

pub returns-then-id-gt-GREATEST : goal.returns-then-id-gt-GREATEST
returns-then-id-gt-GREATEST c =
    let a = c.args in
    let (p, few, e) = c.in_ok-port.ensures in
    refusals_are (bridge a.c.now a.q.now) a.w.now a.from a.id p c.if-id-gt-GREATEST.true _ (rw (← e) at c.refuse.ensures)

pub returns : goal.returns
returns c =
    let a = c.args in
    let (p, few, e) = c.in_ok-port.ensures in
    let i : c.in_ok-port.port ≡ a.from - 1 = omega (arith, e) in
    let n = pairs-from a.from p in
    let l = c.if-id-gt-GREATEST.false in
    offers_are (bridge a.c.now a.q.now) a.w.now a.from a.id _ _ _ _ _ _ p
    (offer_is _ _ _ _ _ _ n.first-is (number_fits _ 0 p (omega arith)) l _ _ _ _ c.split.ensures c.pgn-pgn.ensures c.word_of-word.ensures (ap (λ (m : ℕ). other m 0) i ∙ n.first_at) _
    (rw (← e) at c.offer_to-first.ensures))
    (offer_is _ _ _ _ _ _ n.second_is (number_fits _ 1 p (omega arith)) l _ _ _ _ c.split.ensures c.pgn-pgn.ensures c.word_of-word.ensures (ap (λ (m : ℕ). other m 1) i ∙ n.second_at) _
    (rw (← e) at c.offer_to-second.ensures))
    (offer_is _ _ _ _ _ _ n.third-is (number_fits _ 2 p (omega arith)) l _ _ _ _ c.split.ensures c.pgn-pgn.ensures c.word_of-word.ensures (ap (λ (m : ℕ). other m 2) i ∙ n.third_at) _
    (rw (← e) at c.offer_to-third.ensures))
