-- The 14 bytes of a trace's record: "a first byte and 13 more: 1 to 4 a frame at that port (a listing's record), 129 to 132 a slot of port 1 to 4, and for the fitter's settings of that day 65 add, 66
-- delete, 67 renew (from, to, then PGN in three bytes, or mode); any other first byte is 15" (docs/DECISIONS.md). Assumes nothing.
use Rattle.std.specs.Prelude.{ℕ, ◌-◌, ◌&&◌, cond, List, eqb, leb, ltb, length, get_or, take, drop}
use Rattle.frame.specs.Frame.{three_of}
use Rattle.record.specs.Record.{record_in}
use Rattle.trace.specs.declared.Entry.{Entry}
use Rattle.trace.specs.declared.Entry.TheVariants.{Frame, Slot, Add, Delete, Renew, Other}

-- the bytes of a record
abbrev pub size : ℕ
size = 14

-- "then PGN in three bytes", the least significant first
abbrev pub pgn_in : List ℕ → ℕ
pgn_in l = three_of (record { first = get_or l 3 0; second = get_or l 4 0; third = get_or l 5 0 })

-- by its first byte
abbrev pub entry_by : List ℕ → ℕ → Entry
entry_by l b =
    cond (leb 1 b && leb b 4) (Frame b (record_in (take 13 (drop 1 l))).id)
    (cond (leb 129 b && leb b 132) (Slot (b - 128))
    (cond (eqb b 65) (Add (get_or l 1 0) (get_or l 2 0) (pgn_in l))
    (cond (eqb b 66) (Delete (get_or l 1 0) (get_or l 2 0) (pgn_in l)) (cond (eqb b 67) (Renew (get_or l 1 0) (get_or l 2 0) (get_or l 3 0)) Other))))

-- the entry in the first 14 bytes of a list; fewer are none of the others
unfoldable pub entry_in : List ℕ → Entry
entry_in l = cond (ltb (length l) size) Other (entry_by l (get_or l 0 0))
