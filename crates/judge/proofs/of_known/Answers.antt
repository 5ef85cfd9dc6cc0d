-- `of_known`: 2 and 3 name no position; the searches after them are made in 01's order, and the first that names one is the answer. Assumes nothing.
use borrow.Author.Rules.{rules}
use Rattle.judge.proofs.Slices.{all_left, ◌past◌, decides, last-is}
use Rattle.judge.proofs.of_known.Goals as goal

pub returns-in-Some : goal.returns-in-Some
returns-in-Some c =
    decides (all_left _ _ _ _ _ past c.requires.0 past c.requires.1)
    (c.in-Some.ensures _ (λ i b h p. search rules))

pub returns-in-Some-lowest : goal.returns-in-Some-lowest
returns-in-Some-lowest c =
    decides (all_left _ _ _ _ _ past c.requires.0 past c.requires.1
    past c.in_default.ensures _ (λ i b h p. search rules))
    (c.in-Some-lowest.ensures _ (λ i b h p. search rules))

pub returns-in-Some-lowest-2 : goal.returns-in-Some-lowest-2
returns-in-Some-lowest-2 c =
    decides (all_left _ _ _ _ _ past c.requires.0 past c.requires.1
    past c.in_default.ensures _ (λ i b h p. search rules)
    past c.in_default-lowest.ensures _ (λ i b h p. search rules))
    (c.in-Some-lowest-2.ensures _ (λ i b h p. search rules))

pub returns-in-Some-lowest-3 : goal.returns-in-Some-lowest-3
returns-in-Some-lowest-3 c =
    decides (all_left _ _ _ _ _ past c.requires.0 past c.requires.1
    past c.in_default.ensures _ (λ i b h p. search rules)
    past c.in_default-lowest.ensures _ (λ i b h p. search rules)
    past c.in_default-lowest-2.ensures _ (λ i b h p. search rules))
    (c.in-Some-lowest-3.ensures _ (λ i b h p. search rules))

pub returns-in-Some-lowest-4 : goal.returns-in-Some-lowest-4
returns-in-Some-lowest-4 c =
    decides (all_left _ _ _ _ _ past c.requires.0 past c.requires.1
    past c.in_default.ensures _ (λ i b h p. search rules)
    past c.in_default-lowest.ensures _ (λ i b h p. search rules)
    past c.in_default-lowest-2.ensures _ (λ i b h p. search rules)
    past c.in_default-lowest-3.ensures _ (λ i b h p. search rules))
    (c.in-Some-lowest-4.ensures _ (λ i b h p. search rules))

pub returns : goal.returns
returns c =
    last-is (all_left _ _ _ _ _ past c.requires.0 past c.requires.1
    past c.in_default.ensures _ (λ i b h p. search rules)
    past c.in_default-lowest.ensures _ (λ i b h p. search rules)
    past c.in_default-lowest-2.ensures _ (λ i b h p. search rules)
    past c.in_default-lowest-3.ensures _ (λ i b h p. search rules)
    past c.in_default-lowest-4.ensures _ (λ i b h p. search rules))
    _ _ c.largest_end.ensures c.last_word.ensures
