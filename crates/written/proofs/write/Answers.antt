-- `written::write` meets its contract: the record of the message's identifier and bytes. Assumes nothing.
use Prim.Native.Nat.{ℕ}
use mathlib.Core.Path.{ap₂, ◌∙◌}
use mathlib.Core.List.{List}
use Rattle.record.specs.Record.{written}
use Rattle.written.proofs.write.Goals as goal

pub returns : goal.returns
returns c = c.write.ensures ∙ ap₂ (λ (x : ℕ) (l : List ℕ). written c.args.s.now x 8 l) c.id_of.ensures c.data_of-d.ensures
