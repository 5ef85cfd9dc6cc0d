-- `put_key`: the numbers of the line are those of the key's map. Assumes nothing.
use Rattle.lookup.specs.View.{map_in, edition_in}
use Rattle.listing.proofs.KeyLine.{line_laid}
use Rattle.listing.proofs.put_key.Goals as goal

pub returns : goal.returns
returns c =
    let a = c.args in
    line_laid _ _ a.key (edition_in a.t.now a.key) (map_in a.t.now a.key) _ _ _ c.judge-judged.result c.count-n.ensures
    c.judge-judged.ensures c.number_of-number.ensures c.position_of-position.ensures c.put_line.ensures
