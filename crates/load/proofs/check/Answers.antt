-- `load::check` meets its contract: the page holds the image of what the bytes stand for. Assumes nothing.
use mathlib.Core.Path.{◌∙◌}
use native.Mathlib.Omega.{arith}
use lib.ListN.{length-take}
use Rattle.load.proofs.Loaded.{in_page, checked}
use Rattle.load.proofs.check.Goals as goal

pub slice_bounds-whole-end : goal.slice_bounds-whole-end
slice_bounds-whole-end c = in_page _ _ c.feed.ensures (λ i. (c.type_inv.image i).fits) _ _ _ c.form_of.ensures c.lay-n.ensures.0 c.lay-n.ensures.1

pub slice_bounds-same_bytes-end : goal.slice_bounds-same_bytes-end
slice_bounds-same_bytes-end c = simp length-take (omega (arith, in_page _ _ c.feed.ensures (λ i. (c.type_inv.image i).fits) _ _ _ c.form_of.ensures c.lay-n.ensures.0 c.lay-n.ensures.1))

pub returns : goal.returns
returns c = c.same_bytes.ensures ∙ checked _ _ c.feed.ensures (λ i. (c.type_inv.image i).fits) _ _ _ c.form_of.ensures c.lay-n.ensures.0 c.lay-n.ensures.1
