-- `replaying::feed` meets its contract: either the chunk completes no record, or the first record is the carried bytes with the start of the chunk. Assumes nothing.
use mathlib.Core.Path.{◌≡◌}
use lib.ListN.{length}
use Rattle.bridge.specs.Bridge.{bridge}
use Rattle.replaying.specs.Feed.{state}
use Rattle.replaying.proofs.Chunks.{taken_few, fed-short, fed_whole}
use borrow.Author.Rules.{rules}
use Rattle.replaying.proofs.feed.Goals as goal

pub returns-then-b-lt-SIZE : goal.returns-then-b-lt-SIZE
returns-then-b-lt-SIZE c =
    let carry-long : length c.args.s.carry ≡ 14 = search rules in
    let a = c.args in
    fed-short (bridge a.c.now a.q.now) a.w.now a.s a.chunk.now (carry-long) c.begin-b.result c.begin-b.ensures.value _ c.begin-b.ensures.out_after c.if-b-lt-SIZE.true

pub slice_bounds-behind-count : goal.slice_bounds-behind-count
slice_bounds-behind-count c =
    let carry-long : length c.args.s.carry ≡ 14 = search rules in
    let a = c.args in
    taken_few (bridge a.c.now a.q.now) a.w.now a.s a.chunk.now (carry-long) c.begin-b.result c.begin-b.ensures.value

pub slice_bounds-behind-start : goal.slice_bounds-behind-start
slice_bounds-behind-start c =
    let carry-long : length c.args.s.carry ≡ 14 = search rules in
    let a = c.args in
    taken_few (bridge a.c.now a.q.now) a.w.now a.s a.chunk.now (carry-long) c.begin-b.result c.begin-b.ensures.value

pub returns : goal.returns
returns c =
    let carry-long : length c.args.s.carry ≡ 14 = search rules in
    let a = c.args in
    fed_whole (bridge a.c.now a.q.now) a.w.now a.s a.chunk.now (carry-long) c.begin-b.result c.begin-b.ensures.value _ c.begin-b.ensures.out_after c.if-b-lt-SIZE.false
    (state (bridge c.all-counts.new.c c.all-counts.new.q) c.all-counts.new.w c.all-counts.result) (state (bridge c.all-counts-2.new.c c.all-counts-2.new.q) c.all-counts-2.new.w c.all-counts-2.result) c.tally_of.result c.all-counts.ensures c.all-counts-2.ensures
    c.tally_of.ensures
