-- `locate::is_short` meets its contract: where the log reaches `start`, whole records are counted instead of bytes. Assumes nothing.
use native.Mathlib.Omega.{arith}
use Rattle.locate.proofs.Laid.{room-short, room-long}
use Rattle.locate.proofs.is_short.Goals as goal

pub returns-then-size-start : goal.returns-then-size-start
returns-then-size-start c = let a = c.args in room-short a.size a.start a.count (omega arith)

pub returns : goal.returns
returns c = let a = c.args in room-long a.size a.start a.count (omega arith)
