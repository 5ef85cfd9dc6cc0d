-- A frame as a list of events: the words that it leaves are those of its events, and a frame of bytes carries no number that has not its place in
-- the words. Assumes nothing.
use Prim.Native.Nat.{ℕ, ◌<◌}
use native.Mathlib.Omega.{arith}
use mathlib.Core.Path.{◌≡◌, refl}
use mathlib.Core.Bool.{Bool, true, false, cond}
use mathlib.Core.Option.{Option, none, some}
use mathlib.Core.List.{List}
use lib.Dec.{ltb}
use lib.ListN.{get_or}
use Rattle.frame.specs.Frame.{bits, fields_of}
use Rattle.message.specs.declared.Message.{Message}
use Rattle.message.specs.Message.{heard}
use Rattle.message.proofs.WellFormed.{heard-message, heard_ranges}
use Rattle.history.specs.History.{Learn}
use Rattle.history.specs.Frames.{learns}
use Rattle.table.specs.Learn.{taught, learnt}
use Rattle.learned.specs.Events.{words_from, InWords, AllInWords}

-- a frame does to the words what its events do
pub frame-words : (t : List ℕ) (id len : ℕ) (d : List ℕ) → (learnt t id len d).memory ≡ words_from t (learns (heard id len d).message)
unfolding learnt
frame-words t id len d = go (heard id len d).number (heard id len d).message
  where
    go : (n : ℕ) (o : Option Message) → (taught t n o).memory ≡ words_from t (learns o)
    go n none = refl
    go n (some m) = refl

-- the numbers of the message of a frame of bytes have their place in the words
pub in_words : (id len : ℕ) (d : List ℕ) → ((i : ℕ) → get_or d i 0 < 256) → (m : Message) → (heard id len d).message ≡ some m → InWords (Learn m)
in_words id len d bytes m e =
    let r = heard_ranges id len d bytes m e in
    record {
      key = record { source = omega (arith, r.source); destination = destination; number = omega (arith, r.k.1) };
      row = record { n = omega (arith, r.n.1); first = r.position.0; last = omega (arith, r.n.1, r.position.1); spn = omega (arith, r.spn) };
    }
  where
    small : (b : Bool) → cond b (bits id 8 8) 255 < 256
    small true = omega arith
    small false = omega arith

    destination : m.key.destination < 256
    destination = rw (heard-message id len d m e).1 (small (ltb (fields_of id).pf 240))

pub frame_in_words : (id len : ℕ) (d : List ℕ) → ((i : ℕ) → get_or d i 0 < 256) → AllInWords (learns (heard id len d).message)
frame_in_words id len d bytes = go (heard id len d).message refl
  where
    go : (o : Option Message) → (heard id len d).message ≡ o → AllInWords (learns o)
    go none e = tt
    go (some m) e = (in_words id len d bytes m e, tt)
