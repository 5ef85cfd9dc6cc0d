-- What the words hold of a key after a history of frames (room taught) can be said by frames of that key. Assumes nothing.
use Prim.Native.Nat.{ℕ, ◌≤◌}
use native.Mathlib.Omega.{arith}
use mathlib.Core.Path.{◌≡◌, sym}
use mathlib.Core.Option.{Option, some}
use mathlib.Core.List.{List, Memᴰ}
use Rattle.message.specs.declared.Key.{Key}
use Rattle.message.specs.declared.Head.{Head}
use Rattle.message.specs.declared.Place.{Place}
use Rattle.message.specs.declared.Message.{Message}
use Rattle.maps.specs.Maps.{Map, Nothing, Conflict, Held, map_of, IsMap}
use Rattle.maps.proofs.Maps.{is-map}
use Rattle.history.specs.History.{Event, set_of}
use Rattle.keyrow.specs.Row.{InBytes}
use Rattle.lookup.specs.View.{map_in}
use Rattle.learned.specs.Events.{words_by}
use Rattle.learned.proofs.Theorem as theorem
use Rattle.written.specs.Written.{Teachable}
use Rattle.taught.specs.Taught.{AllTaught}
use Rattle.taught.proofs.Histories.{taught_in_words}
use Rattle.taught.proofs.Sets.{placed, set-taught}

-- what a map says can be said by frames of this key
pub record Sayable (k : Key) (h : Head) (places : ℕ → Option Place) : Type 0 where
  pub count : (1 ≤ h.n) × (h.n ≤ 31)
  pub each : (p : ℕ) (x : Place) → places p ≡ some x → Teachable (placed k h p x)

abbrev pub SayableMap : Key → Map → Type 0
SayableMap k Nothing = Unit {0}
SayableMap k Conflict = Unit {0}
SayableMap k (Held h places) = Sayable k h places

says_sayable : (s : List Message) (k : Key) → ((m : Message) → Memᴰ m s → Teachable m × (m.key ≡ k)) → (M : Map) → IsMap s M → SayableMap k M
says_sayable s k u Nothing g = tt
says_sayable s k u Conflict g = tt
says_sayable s k u (Held h places) g =
    let t = (u g.first g.first_in).0 in
    let e = g.head-is g.first g.first_in in
    record {
      count = rw (sym e) (omega (arith, t.position.0, t.position.1), t.n);
      each = λ p x q. let (m, i, a, b) = g.only p x q in
          let (v, c) = u m i in
          let same : m ≡ placed k h p x = λ j. record { key = c j; head = g.head-is m i j; position = a j; place = b j } in
          rw (sym same) v;
    }

-- what the words hold of a key can be said by frames
pub map_sayable : (h : List Event) → AllTaught h → (k : Key) → InBytes k → SayableMap k (map_in (words_by h) k)
map_sayable h u k b =
    rw (theorem.map_is h (taught_in_words h u) k b) (says_sayable (set_of h k) k (set-taught h u k) (map_of (set_of h k)) (is-map (set_of h k)))
