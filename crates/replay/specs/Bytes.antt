-- What can be promised of a trace that comes from outside: nobody can say which bytes it has, but they are some, and the words and the tally are those that feeding them makes.
-- Assumes nothing.
use Rattle.std.specs.Prelude.{ℕ, ◌≡◌, List}
use Rattle.bridge.specs.Bridge.{Bridge}
use Rattle.replaying.specs.declared.Tally.{Tally}
use Rattle.replaying.specs.Feed.{fed, feeding}

-- the words, the filters and the tally after some bytes, fed at once on top of what there was
pub record SomeTrace (words : Bridge) (filters : List ℕ) (before : Tally) (after : Bridge) (left : List ℕ) (tally : Tally) : Type 0 where
  pub bytes : List ℕ
  pub is : fed after left tally ≡ feeding words filters before bytes
