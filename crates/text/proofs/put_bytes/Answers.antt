-- `text::put_bytes` meets its contract: a copy that had room, or none.
-- Assumes nothing.
use mathlib.Core.Path.{sym, ◌∙◌}
use Prim.Native.Nat.{◌+◌}
use native.Mathlib.Omega.{arith}
use borrow.Author.Tests.{leb-true}
use lib.ListN.{length}
use Rattle.text.proofs.Pages.{put_there, put-not}
use Rattle.text.proofs.put_bytes.Goals as goal

pub overflow_add-result : goal.overflow_add-result
overflow_add-result c = let a = c.args in omega (arith, leb-true (a.at + length a.piece.now) (length a.out.now) (sym c.copy_at.ensures.value ∙ c.if-copy_at.true))

pub returns-then-copy_at : goal.returns-then-copy_at
returns-then-copy_at c =
    let a = c.args in
    put_there a.out.now a.at a.piece.now _ (sym c.copy_at.ensures.value ∙ c.if-copy_at.true) c.copy_at.ensures.dst_after

pub returns : goal.returns
returns c =
    let a = c.args in
    put-not a.out.now a.at a.piece.now _ (sym c.copy_at.ensures.value ∙ c.if-copy_at.false) c.copy_at.ensures.dst_after
