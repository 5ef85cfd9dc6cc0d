-- A small trace, computed by the definition: a frame of priority 6 and one of priority 3 come in at port 1, and a slot of port 2 lets the second one leave. And an empty trace. Assumes nothing.
use Prim.Native.Nat.{ℕ}
use mathlib.Core.Path.{◌≡◌, refl}
use mathlib.Core.List.{List, [], ◌∷◌}
use Rattle.text.specs.Text.{spelt}
use Rattle.replaying.specs.Replay.{replay_of}
use Rattle.text.specs.Text.{decimal_of, decimal_to}
use Rattle.words.specs.First.{first}
use Rattle.record.specs.Record.{record_in}
use Rattle.record.specs.Sized.{whole_by, record_by, left_by, over_to_by, over_by}
use Rattle.pairs.specs.Pairs.{decided_by}
use Rattle.pairs.specs.Row.{count_in, entry_in as entry_of}
use Rattle.ports.specs.Filters.{two_ports, pair_of, fresh_words, decided}
use Rattle.words.specs.Rows.{row_at}
use Rattle.queue.specs.Queue.{least, leaver, stayers}
use Rattle.bridge.specs.Bridge.{is_port}
use Rattle.traffic.specs.Traffic.{fate_of, queue_after, fate_at, fates_in, counters_of}
use Rattle.traffic.specs.Runs.{verdict_of, filters_by, happened}
use Rattle.trace.specs.Entry.{entry_in}
use Rattle.replaying.specs.Lines.{last_line, twelve, replay_with}
use Rattle.replaying.specs.Replay.{entries_of, calls_of, refused_in}
use mathlib.Core.List.{flatten}

pub empty_trace : replay_of []
    ≡ spelt "FROM TO ARRIVED FILTERED QUEUED SENT TURNED REFUSED WAITING\n1 2 0 0 0 0 0 0 0\n1 3 0 0 0 0 0 0 0\n1 4 0 0 0 0 0 0 0\n2 1 0 0 0 0 0 0 0\n2 3 0 0 0 0 0 0 0\n2 4 0 0 0 0 0 0 0\n3 1 0 0 0 0 0 0 0\n3 2 0 0 0 0 0 0 0\n3 4 0 0 0 0 0 0 0\n4 1 0 0 0 0 0 0 0\n4 2 0 0 0 0 0 0 0\n4 3 0 0 0 0 0 0 0\nEVENTS 0 FRAMES 0 SLOTS 0 COMMANDS 0 REFUSED 0 OTHER 0 LEFT 0\n"
unfolding replay_of entries_of over_by over_to_by whole_by left_by replay_with twelve last_line counters_of fates_in happened calls_of refused_in flatten decimal_of decimal_to
empty_trace = refl

-- 18FEE300h and 0CFEE300h at port 1, a slot of port 2, and one byte more
abbrev pub small : List ℕ
small =
    1 ∷ 0 ∷ 227 ∷ 254 ∷ 24 ∷ 8 ∷ 0 ∷ 0 ∷ 0 ∷ 0 ∷ 0 ∷ 0 ∷ 0 ∷ 0
    ∷ 1 ∷ 0 ∷ 227 ∷ 254 ∷ 12 ∷ 8 ∷ 0 ∷ 0 ∷ 0 ∷ 0 ∷ 0 ∷ 0 ∷ 0 ∷ 0
    ∷ 130 ∷ 0 ∷ 0 ∷ 0 ∷ 0 ∷ 0 ∷ 0 ∷ 0 ∷ 0 ∷ 0 ∷ 0 ∷ 0 ∷ 0 ∷ 0 ∷ 1 ∷ []

pub small_trace : replay_of small
    ≡ spelt "FROM TO ARRIVED FILTERED QUEUED SENT TURNED REFUSED WAITING\n1 2 2 0 2 1 0 0 1\n1 3 2 0 2 0 0 0 2\n1 4 2 0 2 0 0 0 2\n2 1 0 0 0 0 0 0 0\n2 3 0 0 0 0 0 0 0\n2 4 0 0 0 0 0 0 0\n3 1 0 0 0 0 0 0 0\n3 2 0 0 0 0 0 0 0\n3 4 0 0 0 0 0 0 0\n4 1 0 0 0 0 0 0 0\n4 2 0 0 0 0 0 0 0\n4 3 0 0 0 0 0 0 0\nEVENTS 3 FRAMES 2 SLOTS 1 COMMANDS 0 REFUSED 0 OTHER 0 LEFT 1\n"
unfolding replay_of entries_of over_by over_to_by whole_by record_by record_in left_by replay_with twelve last_line counters_of fates_in fate_at fate_of queue_after leaver stayers least happened calls_of filters_by verdict_of decided decided_by two_ports pair_of is_port count_in entry_of first fresh_words row_at entry_in refused_in flatten decimal_of decimal_to
small_trace = refl
