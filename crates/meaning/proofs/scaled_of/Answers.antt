-- `scaled_of`: what the one look-up found; a product with a resolution of 002 is far below 2^62. Assumes nothing.
use mathlib.Core.Path.{refl, sym}
use native.Mathlib.Omega.{arith}
use Rattle.states.proofs.Cases.{kind_tag, state_tag, is_valid, is_other}
use Rattle.meaning.proofs.Scaling.{found_small, raised_small, scaled_none, scaled_given, unknown_scaled}
use Rattle.meaning.proofs.scaled_of.Goals as goal

pub returns-in_default : goal.returns-in_default
returns-in_default c = sym (unknown_scaled c.args.spn c.args.number (sym c.in_default.ensures.1))

pub returns-then-ne : goal.returns-then-ne
returns-then-ne c =
    rw (kind_tag c.kind_of-kind.result, state_tag c.judge-state.result)
    (scaled_none _ _ _ _ _ c.in-Some.ensures.0 c.in-Some.ensures.1 c.kind_of-kind.ensures refl _ _ c.judge-state.ensures (is_other c.judge-state.result c.if-ne.ensures))

pub less-value-requires : goal.less-value-requires
less-value-requires c =
    let b = found_small _ _ _ _ _ c.in-Some.ensures.0 c.in-Some.ensures.1 refl c.slot_of-slot.ensures in
    (raised_small c.args.number _ (omega (arith, c.ranges.number)) b.0, omega (arith, b.1))

pub returns : goal.returns
returns c =
    rw (kind_tag c.kind_of-kind.result, state_tag c.judge-state.result)
    (scaled_given _ _ _ _ _ c.in-Some.ensures.0 c.in-Some.ensures.1 c.kind_of-kind.ensures c.slot_of-slot.ensures _ _
    c.judge-state.ensures (is_valid c.judge-state.result c.if-ne.ensures) (omega (arith, c.ranges.number)) _ c.less-value.ensures)
