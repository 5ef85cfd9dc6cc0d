-- What can be promised of a log that comes from outside: nobody can say which bytes it has, but they are some, and the words of table and cells and the tally are those that feeding them
-- makes.
-- Assumes nothing.
use Rattle.std.specs.Prelude.{ℕ, ◌≡◌, List}
use Rattle.feeding.specs.declared.Tally.{Tally}
use Rattle.hire.specs.Step.{hired, hiring}

-- the words of the table and of the cells and the tally after some bytes, fed at once on top of what there was
pub record SomeHire (limit : ℕ) (words acc : List ℕ) (before : Tally) (after counted : List ℕ) (tally : Tally) : Type 0 where
  pub bytes : List ℕ
  pub is : hired after tally counted ≡ hiring limit words acc before bytes
