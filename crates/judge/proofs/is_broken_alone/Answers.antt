-- `is_broken_alone`: the tests of its definition, apart for narrow and for wide parameters. Assumes nothing.
use Rattle.judge.proofs.Clear.{broken_narrow, broken_wide}
use Rattle.judge.proofs.is_broken_alone.Goals as goal

pub returns-then-width-le8 : goal.returns-then-width-le8
returns-then-width-le8 c = broken_narrow c.args.start c.args.width c.if-width-le8.true

pub returns : goal.returns
returns c = broken_wide c.args.start c.args.width c.if-width-le8.false
