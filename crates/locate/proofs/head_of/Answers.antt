-- `locate::head_of` meets its contract: the form word of the key's row, 0 where there is no row. Assumes nothing.
use Prim.Native.Nat.{ℕ}
use mathlib.Core.Path.{ap, ◌∙◌}
use mathlib.Core.List.{List}
use Rattle.keyrow.specs.Row.{form_word}
use Rattle.keyrow.specs.View.{head_of}
use Rattle.locate.proofs.head_of.Goals as goal

pub returns-in-Some : goal.returns-in-Some
returns-in-Some c = c.head_of.ensures ∙ ap (λ (row : List ℕ). head_of (form_word row)) c.in-Some.ensures.0

pub returns-in-None : goal.returns-in-None
returns-in-None c = c.head_of-in-None.ensures ∙ ap (λ (row : List ℕ). head_of (form_word row)) c.in-None.ensures.0
