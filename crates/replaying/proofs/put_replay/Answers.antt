-- `replaying::put_replay` meets its contract: the header, the twelve pairs, and the last line. Assumes nothing.
use borrow.Author.Rules.{rules}
use Rattle.replaying.specs.Lines.{twelve, replay_with}
use Rattle.text.proofs.Laid.{next, let_go}
use Rattle.replaying.proofs.Finished.{ending}
use Rattle.replaying.proofs.put_replay.Goals as goal

pub returns : goal.returns
unfolding twelve replay_with
returns c =
    let twelve_laid = next c.put_three.ensures (next c.put_three-2.ensures (next c.put_three-3.ensures c.put_three-4.ensures)) in
    let_go c.new-page.ensures.holds (next c.bytes.ensures (next twelve_laid (ending _ _ _ _ _ c.held-left.ensures.0 c.put_last.ensures))) c.at.ensures (search rules)
