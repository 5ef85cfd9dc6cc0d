-- A message's record: 13 bytes, read back as the frame that was written and heard as the message. Assumes nothing.
use Prim.Native.Nat.{ℕ, ◌*◌, ◌<◌}
use mathlib.Core.Path.{◌≡◌, refl, sym, ap, ◌∙◌}
use mathlib.Core.List.{List, [], ◌∷◌, ◌++◌, flatten, append_assoc}
use mathlib.Core.Option.{some}
use native.Mathlib.Omega.{arith}
use lib.ListN.{length, get_or, length-append}
use Rattle.message.specs.declared.Message.{Message}
use Rattle.message.specs.Message.{Heard, heard}
use Rattle.record.specs.declared.Record.{Record}
use Rattle.record.specs.Record.{record_in, bytes_of}
use Rattle.record.proofs.Laws.{read_written}
use Rattle.written.specs.Written.{id_of, five_of, with_key, data_of, record_of, log_of, Teachable}
use Rattle.written.proofs.Written.{heard_back, heard_teachable}

pub record_long : (m : Message) → length (record_of m) ≡ 13
unfolding record_of bytes_of
record_long m = refl

pub log_long : (ms : List Message) → length (log_of ms) ≡ 13 * length ms
unfolding flatten
log_long [] = refl
log_long (m ∷ ms) = length-append (record_of m) (log_of ms) ∙ rw (record_long m, log_long ms) (omega arith)

-- one list of messages behind another
pub log_more : (ms ns : List Message) → log_of (ms ++ ns) ≡ log_of ms ++ log_of ns
unfolding flatten
log_more [] ns = refl
log_more (m ∷ ms) ns = ap (λ (l : List ℕ). record_of m ++ l) (log_more ms ns) ∙ sym (append_assoc (record_of m) (log_of ms) (log_of ns))

-- what the first 13 bytes of a log are read as, whatever stands behind them
pub record_back : (m : Message) (rest : List ℕ) → record_in (record_of m ++ rest) ≡ record { id = id_of m.key; len = 8; bytes = data_of m }
unfolding record_of five_of with_key
record_back m rest = read_written (id_of m.key) 8 _ _ _ _ _ _ _ _ rest

-- the answer to a record that is read as a frame
abbrev pub heard_in : List ℕ → Heard
heard_in r = heard (record_in r).id (record_in r).len (record_in r).bytes

-- it is heard as the message
pub record_heard : (m : Message) → Teachable m → (rest : List ℕ) → heard_in (record_of m ++ rest) ≡ record { number = 0; message = some m }
record_heard m t rest = ap (λ (r : Record). heard r.id r.len r.bytes) (record_back m rest) ∙ heard_back m t

-- for every message that some frame taught
pub taught_back : (id len : ℕ) (d : List ℕ) → ((i : ℕ) → get_or d i 0 < 256) → (m : Message) → (heard id len d).message ≡ some m
    → heard (id_of m.key) 8 (data_of m) ≡ record { number = 0; message = some m }
taught_back id len d bytes m e = heard_back m (heard_teachable id len d bytes m e)
