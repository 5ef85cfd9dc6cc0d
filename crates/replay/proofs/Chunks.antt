-- A trace that comes chunk after chunk is some bytes. Assumes nothing.
use Prim.Native.Nat.{ℕ}
use mathlib.Core.Path.{ap, ◌∙◌}
use mathlib.Core.List.{List, ◌++◌}
use Rattle.bridge.specs.Bridge.{Bridge}
use Rattle.replaying.specs.declared.Tally.{Tally}
use Rattle.replaying.specs.Feed.{Fed, feeding}
use Rattle.replaying.proofs.Chunks.{fed_twice}
use Rattle.replay.specs.Bytes.{SomeTrace}

-- one chunk more
pub more_bytes : (b : Bridge) (w : List ℕ) (s : Tally) (c : Bridge) (v : List ℕ) (p : Tally) (d : Bridge) (u : List ℕ) (q : Tally) → SomeTrace b w s c v p → SomeTrace c v p d u q → SomeTrace b w s d u q
more_bytes b w s c v p d u q x y =
    record {
      bytes = x.bytes ++ y.bytes;
      is = y.is ∙ ap (λ (f : Fed). feeding f.words f.filters f.tally y.bytes) x.is ∙ fed_twice b w s x.bytes y.bytes;
    }
