-- `put_row`: the row, as far as its form has it. Assumes nothing.
use Prim.Native.Nat.{ℕ}
use mathlib.Core.Path.{sym, ap, ◌∙◌}
use mathlib.Core.List.{[], ◌∷◌}
use lib.ListN.{take}
use lib.Seq.{length-take-le}
use Rattle.text.proofs.Laid.{equal}
use Rattle.image.specs.Write.{full_row, row_bytes}
use borrow.Author.Rules.{rules}
use Rattle.save.proofs.put_row.Goals as goal

pub slice_bounds-bytes-end : goal.slice_bounds-bytes-end
slice_bounds-bytes-end c = sym (length-take-le _ _ (search rules))

pub returns : goal.returns
unfolding row_bytes
returns c =
    let a = c.args in
    equal (λ i. take (c.row_size-n.ensures.0 i) ((c.row_bytes-row.ensures ∙ ap (λ (x : ℕ). full_row a.key x a.from a.len) c.edition_of-edition.ensures) i) ∷ []) c.bytes.ensures
