-- `finish`: the page has room for the listing, and its first bytes are handed out. Assumes nothing.
use mathlib.Core.Path.{◌∙◌}
use native.Mathlib.Omega.{arith}
use lib.ListN.{length-take}
use Rattle.text.specs.Text.{page}
use Rattle.text.proofs.Pages.{Holds}
use Rattle.text.proofs.Handed.{within}
use Rattle.listing.specs.Page.{page_of}
use Rattle.listing.proofs.Finished.{filled, finish_is}
use borrow.Author.Rules.{rules}
use Rattle.listing.proofs.finish.Goals as goal

pub slice_bounds-page-end : goal.slice_bounds-page-end
slice_bounds-page-end c =
    let holds : let a = c.args in Holds 512 (page c.put_listing-n.result c.put_listing-n.new.out) (page_of a.t.now a.s) = let a = c.args in filled a.t.now a.s _ _ (search rules) c.put_listing-n.ensures in
    within _ _ _ (holds)

pub slice_bounds-hand_out-end : goal.slice_bounds-hand_out-end
slice_bounds-hand_out-end c =
    let holds : let a = c.args in Holds 512 (page c.put_listing-n.result c.put_listing-n.new.out) (page_of a.t.now a.s) = let a = c.args in filled a.t.now a.s _ _ (search rules) c.put_listing-n.ensures in
    simp length-take (omega (arith, within _ _ _ (holds)))

pub returns : goal.returns
returns c =
    let holds : let a = c.args in Holds 512 (page c.put_listing-n.result c.put_listing-n.new.out) (page_of a.t.now a.s) = let a = c.args in filled a.t.now a.s _ _ (search rules) c.put_listing-n.ensures in
    c.hand_out.ensures ∙ finish_is _ _ _ _ (holds)
