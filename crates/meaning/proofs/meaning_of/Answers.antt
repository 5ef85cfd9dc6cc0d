-- `meaning_of`: what the one look-up found. Assumes nothing.
use mathlib.Core.Path.{refl, sym}
use native.Mathlib.Omega.{arith}
use Rattle.states.proofs.Cases.{kind_tag}
use Rattle.meaning.proofs.Scaling.{found_small, meaning_given, unknown}
use Rattle.meaning.proofs.meaning_of.Goals as goal

pub returns-in_default : goal.returns-in_default
returns-in_default c = sym (unknown c.args.spn (sym c.in_default.ensures.1))

pub less-offset-requires : goal.less-offset-requires
less-offset-requires c =
    let b = (found_small _ _ _ _ _ c.in-Some.ensures.0 c.in-Some.ensures.1 refl c.slot_of-slot.ensures).1 in
    (omega (arith, b), omega (arith, b))

pub returns : goal.returns
returns c =
    rw (kind_tag c.kind_of-kind.result)
    (meaning_given _ _ _ _ _ c.in-Some.ensures.0 c.in-Some.ensures.1 c.kind_of-kind.ensures c.slot_of-slot.ensures _ c.less-offset.ensures)
