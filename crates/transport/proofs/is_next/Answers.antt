-- `transport::is_next` meets its contract: a byte is at most 255. Assumes nothing.
use native.Mathlib.Omega.{arith}
use borrow.Author.Tests.{le-leb}
use Rattle.session.specs.Session.{is_next}
use Rattle.transport.proofs.is_next.Goals as goal

pub returns : goal.returns
unfolding is_next
returns c = rw (le-leb c.args.n 255 (omega arith))
