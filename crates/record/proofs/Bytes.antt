-- A log is of bytes, and so are its records and their data. Assumes nothing.
use Prim.Native.Nat.{ℕ, zero, suc, ◌*◌, ◌<◌}
use native.Mathlib.Omega.{arith}
use native.Mathlib.Decide.{dec_lt}
use mathlib.Core.List.{List, [], ◌∷◌}
use borrow.Author.Tests.{lt-ltb, le-ltb}
use lib.ListN.{length, get_or, take, drop}
use Rattle.record.specs.Record.{Bytes, record_in}
use Rattle.record.specs.Sized.{record_by}
use Rattle.record.specs.Cut.{record_at}

pub byte_at : (l : List ℕ) (i : ℕ) → Bytes l → get_or l i 0 < 256
byte_at [] i b = omega arith
byte_at (x ∷ l) zero b = b.0
byte_at (x ∷ l) (suc i) b = byte_at l i b.1

pub bytes_take : (n : ℕ) (l : List ℕ) → Bytes l → Bytes (take n l)
bytes_take zero l b = tt
bytes_take (suc n) [] b = tt
bytes_take (suc n) (x ∷ l) b = (b.0, bytes_take n l b.1)

pub bytes_drop : (n : ℕ) (l : List ℕ) → Bytes l → Bytes (drop n l)
bytes_drop zero l b = b
bytes_drop (suc n) [] b = tt
bytes_drop (suc n) (x ∷ l) b = bytes_drop n l b.1

-- the data of a record are bytes
pub record_bytes : (r : List ℕ) → Bytes r → Bytes (record_in r).bytes
unfolding record_in
record_bytes r b =
    elim (dec_lt (length r) 13) [
      | yes h ↦ rw (lt-ltb (length r) 13 h) (omega arith, (omega arith, (omega arith, (omega arith, (omega arith, (omega arith, (omega arith, (omega arith, tt))))))))
      | no h ↦ rw (le-ltb (length r) 13 (omega arith))
          (byte_at r 5 b, (byte_at r 6 b, (byte_at r 7 b, (byte_at r 8 b, (byte_at r 9 b, (byte_at r 10 b, (byte_at r 11 b, (byte_at r 12 b, tt))))))))
    ]

-- of each record of a log
pub data_bytes : (log : List ℕ) (n : ℕ) → Bytes log → (i : ℕ) → get_or (record_in (record_at log n)).bytes i 0 < 256
unfolding record_by
data_bytes log n b i = byte_at (record_in (record_at log n)).bytes i (record_bytes (record_at log n) (bytes_take 13 (drop (n * 13) log) (bytes_drop (n * 13) log b)))
