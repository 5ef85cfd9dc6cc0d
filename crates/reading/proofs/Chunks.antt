-- Bytes that come chunk after chunk are some bytes. Assumes nothing.
use Prim.Native.Nat.{ℕ}
use mathlib.Core.Path.{ap, ◌∙◌}
use mathlib.Core.List.{List, ◌++◌}
use Rattle.feeding.specs.declared.Tally.{Tally}
use Rattle.feeding.specs.Feed.{Fed, feeding}
use Rattle.feeding.proofs.Feeding.{fed_twice}
use Rattle.reading.specs.Bytes.{SomeBytes}

-- one chunk more
pub more_bytes : (t u v : List ℕ) (s p q : Tally) → SomeBytes t s u p → SomeBytes u p v q → SomeBytes t s v q
more_bytes t u v s p q a b =
    record {
      bytes = a.bytes ++ b.bytes;
      is = b.is ∙ ap (λ (f : Fed). feeding f.words f.tally b.bytes) a.is ∙ fed_twice t s a.bytes b.bytes;
    }
