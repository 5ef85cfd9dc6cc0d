-- `Walk::next`: one turn of the walk, or its end. Assumes nothing.
use mathlib.Core.Path.{ap}
use native.Mathlib.Omega.{arith}
use borrow.Author.Rules.{rules}
use lib.ListN.{length}
use Rattle.lookup.specs.Next.{key_found}
use Rattle.lookup.proofs.Walks.{all_made, none_left, one_turn}
use Rattle.lookup.proofs.WalkIterator.next.Goals as goal

pub returns-then-self-eq0-clause-steps : goal.returns-then-self-eq0-clause-steps
returns-then-self-eq0-clause-steps c =
    let w = c.args.self.now in
    let none = all_made w.t.now w.left (key_found w.next) c.if-self-eq0.true in
    (none, none)

pub returns-in_err-key-clause-steps : goal.returns-in_err-key-clause-steps
returns-in_err-key-clause-steps c =
    let w = c.args.self.now in
    let none = none_left w.t.now w.left (key_found w.next) (ap key_found c.in_err-key.was) in
    rw c.from_residual.ensures (none, none)

pub returns-clause-steps : goal.returns-clause-steps
returns-clause-steps c =
    let w = c.args.self.now in
    one_turn w.t.now w.left c.in_ok-key.key (key_found w.next) _ (omega arith) (ap key_found c.in_ok-key.was) c.next_key-self.ensures

pub returns-clause-goes : goal.returns-clause-goes
returns-clause-goes c =
    let w = c.args.self.now in
    let step = one_turn w.t.now w.left c.in_ok-key.key (key_found w.next) _ (omega arith) (ap key_found c.in_ok-key.was) c.next_key-self.ensures in
    let shorter = ap length step in search rules
