-- `lay_over`: after i turns the first i bytes are laid. Assumes nothing.
use mathlib.Core.Path.{◌∙◌}
use native.Mathlib.Omega.{arith}
use lib.ListN.{length-set}
use Rattle.transport.proofs.Copy.{copy_more, copied}
use Rattle.transport.proofs.lay_over.Goals as goal

pub loop-i-preserved : goal.loop-i-preserved
loop-i-preserved c =
    let a = c.args in
    (simp length-set c.loop-i.invariant.0, rw c.loop-i.invariant.1 (copy_more a.out.now a.from.now c.loop-i.i (omega arith) (omega arith)))

pub returns : goal.returns
returns c =
    let a = c.args in
    c.loop-i.invariant.1 ∙ copied a.out.now a.from.now c.loop-i.i (omega arith)
