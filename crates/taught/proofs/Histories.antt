-- What frames bring to a history is taught; and what is taught has its place in the words of a table. Assumes nothing.
use Prim.Native.Nat.{ℕ, ◌<◌}
use native.Mathlib.Omega.{arith}
use mathlib.Core.Path.{◌≡◌, refl}
use mathlib.Core.Option.{Option, none, some}
use mathlib.Core.List.{List, [], ◌∷◌, ◌++◌}
use lib.ListN.{get_or}
use Rattle.words.proofs.Tests.{test}
use Rattle.message.specs.declared.Message.{Message}
use Rattle.message.specs.Message.{heard}
use Rattle.history.specs.History.{Event, Learn, Forget, Edition, counts, kept}
use Rattle.history.specs.Frames.{learns}
use Rattle.learned.specs.Events.{InWords, AllInWords}
use Rattle.written.specs.Written.{Teachable}
use Rattle.written.proofs.Written.{heard_teachable}
use Rattle.taught.specs.Taught.{Taught, AllTaught, AllTeachable, learned_on}

-- a frame of bytes
pub frame-taught : (id len : ℕ) (d : List ℕ) → ((i : ℕ) → get_or d i 0 < 256) → AllTaught (learns (heard id len d).message)
frame-taught id len d bytes = go (heard id len d).message refl
  where
    go : (o : Option Message) → (heard id len d).message ≡ o → AllTaught (learns o)
    go none e = tt
    go (some m) e = (heard_teachable id len d bytes m e, tt)

-- one list of events after another
pub taught-append : (a b : List Event) → AllTaught a → AllTaught b → AllTaught (a ++ b)
taught-append [] b u v = v
taught-append (e ∷ a) b u v = (u.0, taught-append a b u.1 v)

-- "those answered 9 apart"
pub taught-kept : (h : List Event) → AllTaught h → AllTaught (kept h)
taught-kept [] u = tt
taught-kept (e ∷ h) u = test (counts (kept h) e) (λ t. rw t (u.0, taught-kept h u.1)) (λ f. rw f (taught-kept h u.1))

-- messages learned on top
pub taught_on : (ms : List Message) (h : List Event) → AllTeachable ms → AllTaught h → AllTaught (learned_on h ms)
taught_on [] h u v = v
taught_on (m ∷ ms) h u v = taught_on ms (Learn m ∷ h) u.1 (u.0, v)

-- the numbers of a teachable message have their place in the words
teachable_in_words : (m : Message) → Teachable m → InWords (Learn m)
teachable_in_words m t = record {
  key = record { source = omega (arith, t.source); destination = t.destination; number = omega (arith, t.k.1) };
  row = record { n = omega (arith, t.n); first = t.position.0; last = omega (arith, t.n, t.position.1); spn = omega (arith, t.spn) };
}

event_in_words : (e : Event) → Taught e → InWords e
event_in_words (Learn m) u = teachable_in_words m u
event_in_words (Forget k) u = record { key = u; row = tt }
event_in_words (Edition k e) u = record { key = u; row = tt }

pub taught_in_words : (h : List Event) → AllTaught h → AllInWords h
taught_in_words [] u = tt
taught_in_words (e ∷ h) u = (event_in_words e u.0, taught_in_words h u.1)
