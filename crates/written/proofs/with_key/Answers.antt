-- `written::with_key` meets its contract: the five bytes, one by one. Assumes nothing.
use mathlib.Core.Path.{refl}
use Rattle.written.specs.Written.{with_key}
use Rattle.written.proofs.Written.{five-is}
use borrow.Author.Rules.{rules}
use Rattle.written.proofs.with_key.Goals as goal

pub returns : goal.returns
unfolding with_key
returns c = rw (c.pgn_bytes-pgn.ensures, five-is c.args.five (search rules)) refl
