-- `put`: past the end a store changes nothing. Assumes nothing.
use Rattle.std.proofs.Common.{sym}
use Rattle.std.proofs.Math.Seq.{set_out}
use Rattle.lines.proofs.put.Goals as goal

pub returns-else-at-words : goal.returns-else-at-words
returns-else-at-words g c = sym (set_out _ _ _ c.if-at-words.false)
