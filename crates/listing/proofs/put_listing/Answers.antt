-- `put_listing`: the header, the lines of the keys, and the last line. Assumes nothing.
use borrow.Author.Rules.{rules}
use Rattle.listing.specs.Lines.{listing_with}
use Rattle.text.proofs.Laid.{next, let_go}
use Rattle.listing.proofs.Pieces.{ending}
use Rattle.listing.proofs.put_listing.Goals as goal

pub returns : goal.returns
unfolding listing_with
returns c =
    let_go c.new-page.ensures.holds (next c.bytes.ensures (next c.put_keys.ensures (ending _ _ _ _ _ c.left_in-left.ensures.0 c.put_last.ensures))) c.at.ensures (search rules)
