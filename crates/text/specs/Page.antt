-- A page that a program lays pieces into. Assumes nothing.
use Rattle.std.specs.Prelude.{◌≡◌, ℕ, List}
use Rattle.text.specs.declared.Page.{Page as Lent}
use Rattle.text.specs.Text.{Page, page, put_all}

-- what it holds, and where its next piece goes
abbrev pub held : Lent → Page
held p = page p.at p.out.now

-- pieces were laid: the bytes are still the same lent ones, and hold the pieces one after another
pub record Laid (p q : Lent) (xs : List (List ℕ)) : Type 0 where
  pub same : q.out.ghost_name ≡ p.out.ghost_name
  pub holds : held q ≡ put_all (held p) xs
