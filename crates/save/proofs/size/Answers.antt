-- `save::size` meets its contract: the contents and the bodies. Assumes nothing.
use Rattle.save.proofs.Joined.{size_is}
use Rattle.save.proofs.size.Goals as goal

pub returns : goal.returns
returns c =
    let r = c.choose-chosen.ensures in
    size_is 2 c.args.t.now _ _ _ r.1 c.behind.ensures.0 r.2
