-- `ports::decide` meets its contract: 15, 1, or what the pair's row says of the frame's PGN. Assumes nothing.
use mathlib.Core.Path.{refl}
use borrow.Author.Rules.{rules}
use Rattle.ports.proofs.Calls.{undecided, too_long, decides}
use Rattle.ports.proofs.decide.Goals as goal

pub returns-then-id-gt-GREATEST : goal.returns-then-id-gt-GREATEST
returns-then-id-gt-GREATEST c = too_long _ _ _ _ c.in-Some.ensures.number c.in-Some.ensures.below c.if-id-gt-GREATEST.true c.plainly.ensures

pub returns-in-Some : goal.returns-in-Some
returns-in-Some c =
    let pair = c.in-Some.ensures in
    decides _ _ _ _ pair.number (search rules) pair.below c.if-id-gt-GREATEST.false c.split.ensures c.pgn.ensures c.lets_pass-pass.ensures c.pick8.ensures c.with_detail.ensures

pub returns : goal.returns
returns c = undecided _ _ _ _ c.in_default.ensures.number refl c.plainly-2.ensures
