-- The six counters of a pair of ports, and what each event makes of them (02, Req 09: "The six counters of one port pair are changed where they stand: arrived, filtered,
-- queued, sent, turned away, refused"). Assumes nothing.
use Rattle.std.specs.Prelude.{ℕ, ◌+◌, ◌%◌, ◌^◌}
use Rattle.counters.specs.declared.Counters.{Counters}
use Rattle.counters.specs.declared.Fate.{Fate}
use Rattle.counters.specs.declared.Fate.TheVariants.{Refused, Filtered, Turned, Queued, Sent}

-- one more, in a number of 64 bits: the count modulo 2^64
abbrev pub more : ℕ → ℕ
more n = (n + 1) % 2 ^ 64

abbrev pub with_arrived : Counters → Counters
with_arrived c = record { arrived = more c.arrived; filtered = c.filtered; queued = c.queued; sent = c.sent; turned = c.turned; refused = c.refused }

abbrev pub with_filtered : Counters → Counters
with_filtered c = record { arrived = c.arrived; filtered = more c.filtered; queued = c.queued; sent = c.sent; turned = c.turned; refused = c.refused }

abbrev pub with_queued : Counters → Counters
with_queued c = record { arrived = c.arrived; filtered = c.filtered; queued = more c.queued; sent = c.sent; turned = c.turned; refused = c.refused }

abbrev pub with_sent : Counters → Counters
with_sent c = record { arrived = c.arrived; filtered = c.filtered; queued = c.queued; sent = more c.sent; turned = c.turned; refused = c.refused }

abbrev pub with_turned : Counters → Counters
with_turned c = record { arrived = c.arrived; filtered = c.filtered; queued = c.queued; sent = c.sent; turned = more c.turned; refused = c.refused }

abbrev pub with_refused : Counters → Counters
with_refused c = record { arrived = c.arrived; filtered = c.filtered; queued = c.queued; sent = c.sent; turned = c.turned; refused = more c.refused }

-- what becomes of a frame at a pair: whichever was offered, be it refused, filtered, turned away or queued, has arrived; one that is sent arrived before
unfoldable pub with_fate : Counters → Fate → Counters
with_fate c Refused = with_refused (with_arrived c)
with_fate c Filtered = with_filtered (with_arrived c)
with_fate c Turned = with_turned (with_arrived c)
with_fate c Queued = with_queued (with_arrived c)
with_fate c Sent = with_sent c
