-- Every refusal of a call on the filters, in order. Assumes nothing.
use Rattle.std.specs.Prelude.{not, List, [], ◌∷◌, ℕ, ltb}
use Rattle.answers.specs.Answers.{Said, plain}
use Rattle.answers.specs.Tests.{Test, ◌when◌}
use Rattle.frame.specs.Frame.{greatest_identifier}
use Rattle.pairs.specs.declared.Command.{Command}
use Rattle.pairs.specs.Pairs.{tests_for}
use Rattle.ports.specs.Filters.{two_ports, pair_at}

-- tests that give numbers, as answers whose detail is 0
abbrev pub plainly : List (Test ℕ) → List (Test Said)
plainly [] = []
plainly (t ∷ ts) = plain t.answer when t.applies ∷ plainly ts

-- "Filter commands test 15, then 17, 19, 20, 18, 16 as far as they apply"
abbrev pub command_tests : List ℕ → ℕ → ℕ → Command → List (Test Said)
command_tests w f t c = plain 15 when not (two_ports f t) ∷ plainly (tests_for (pair_at w f t) c)

-- "A deciding call takes a pair and an identifier: 15, then 1"
abbrev pub decide_tests : ℕ → ℕ → ℕ → List (Test Said)
decide_tests f t id = plain 15 when not (two_ports f t) ∷ plain 1 when ltb greatest_identifier id ∷ []
