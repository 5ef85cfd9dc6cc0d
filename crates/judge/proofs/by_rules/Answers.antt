-- `by_rules`: 2 and 3 are searched for before the rest, in 01's order. Assumes nothing.
use borrow.Author.Rules.{rules}
use Rattle.judge.proofs.Search.{not_found}
use Rattle.judge.proofs.Slices.{all_left, ◌past◌, decides, reaches}
use Rattle.judge.proofs.by_rules.Goals as goal

pub returns-in-Some : goal.returns-in-Some
returns-in-Some c = decides (all_left _ _ _ _ _) c.in-Some.ensures

-- nothing is missing, so every slice has the n positions
pub invariant_of-listed : goal.invariant_of-listed
invariant_of-listed c =
    let a = c.args in
    let (x, s, w) = reaches a.spns.now a.starts.now a.widths.now a.n (not_found _ c.in_default.ensures) in
    record { has_spns = x; has_starts = s; has_widths = w }

pub returns-in-Some-lowest : goal.returns-in-Some-lowest
returns-in-Some-lowest c = decides (all_left _ _ _ _ _ past c.in_default.ensures) (c.in-Some-lowest.ensures _ (λ i b h p. search rules))

pub of_known-requires : goal.of_known-requires
of_known-requires c = (c.in_default.ensures, c.in_default-lowest.ensures _ (λ i b h p. search rules))
