-- What can be promised of bytes that come from outside: nobody can say which they are, but they are some, and the words and the tally are those that feeding them makes.
-- Assumes nothing.
use Rattle.std.specs.Prelude.{ℕ, ◌≡◌, List}
use Rattle.feeding.specs.declared.Tally.{Tally}
use Rattle.feeding.specs.Feed.{fed, feeding}

-- the words and the tally after some bytes, fed at once on top of what there was
pub record SomeBytes (words : List ℕ) (before : Tally) (after : List ℕ) (tally : Tally) : Type 0 where
  pub bytes : List ℕ
  pub is : fed after tally ≡ feeding words before bytes
