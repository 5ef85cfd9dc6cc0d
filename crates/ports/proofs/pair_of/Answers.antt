-- `ports::pair_of` meets its contract: the number in each of the two orders of the ports. Assumes nothing.
use mathlib.Core.Path.{sym, ◌∙◌}
use native.Mathlib.Omega.{arith}
use Rattle.ports.proofs.Numbers.{two, number_above, number-below, number_none}
use Rattle.ports.proofs.pair_of.Goals as goal

pub overflow_sub-row : goal.overflow_sub-row
overflow_sub-row c = let b = two _ _ (sym c.two_ports.ensures ∙ c.if-two_ports.true) in omega arith

pub overflow_sub-result : goal.overflow_sub-result
overflow_sub-result c = let b = two _ _ (sym c.two_ports.ensures ∙ c.if-two_ports.true) in omega arith

pub returns-then-to-from : goal.returns-then-to-from
returns-then-to-from c =
    let is : _ = sym c.two_ports.ensures ∙ c.if-two_ports.true in
    let b = two _ _ is in
    record { number = sym (number_above _ _ is c.if-to-from.true); below = omega arith }

pub overflow_sub-result-then-two_ports : goal.overflow_sub-result-then-two_ports
overflow_sub-result-then-two_ports c = let b = two _ _ (sym c.two_ports.ensures ∙ c.if-two_ports.true) in omega arith

pub returns-then-two_ports : goal.returns-then-two_ports
returns-then-two_ports c =
    let is : _ = sym c.two_ports.ensures ∙ c.if-two_ports.true in
    let b = two _ _ is in
    record { number = sym (number-below _ _ is c.if-to-from.false); below = omega arith }

pub returns-clause-number : goal.returns-clause-number
returns-clause-number c = sym (number_none _ _ (sym c.two_ports.ensures ∙ c.if-two_ports.false))
