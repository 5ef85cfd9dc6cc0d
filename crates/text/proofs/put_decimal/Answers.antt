-- `text::put_decimal` meets its contract: the digits are the end of the 20 bytes.
-- Assumes nothing.
use mathlib.Core.Path.{◌≡◌, ap, ◌∙◌}
use Prim.Native.Nat.{◌-◌, ◌<◌}
use native.Mathlib.Omega.{arith}
use lib.ListN.{length, drop, length-drop}
use lib.Seq.{take_all}
use Rattle.text.specs.Text.{put}
use borrow.Author.Rules.{rules}
use Rattle.text.proofs.put_decimal.Goals as goal

pub slice_bounds-put_bytes-end : goal.slice_bounds-put_bytes-end
slice_bounds-put_bytes-end c = let h : 19 < length c.in_decimal-d.result.bytes = search rules in omega (arith, h)

pub returns : goal.returns
returns c =
    let a = c.args in
    let h : length c.in_decimal-d.result.bytes ≡ 20 = search rules in
    c.put_bytes.ensures
    ∙ ap (put a.out.now a.at) (take_all (20 - c.in_decimal-d.result.from) (drop c.in_decimal-d.result.from c.in_decimal-d.result.bytes) (simp length-drop (omega arith)) ∙ c.in_decimal-d.ensures.0)
