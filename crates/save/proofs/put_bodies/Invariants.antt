use mathlib.Core.Path.{◌≡◌}
use lib.ListN.{drop}
use Rattle.text.specs.Text.{put_all}
use Rattle.text.specs.Page.{held}
use Rattle.lookup.specs.View.{map_in}
use Rattle.save.specs.Pieces.{bodies_pieces}
use Rattle.save.proofs.put_bodies.Given as goal

abbrev pub invariant-loop-key : goal.invariant-loop-key
invariant-loop-key l =
    (l.page.out.ghost_name ≡ l.initial.page.out.ghost_name)
    × (put_all (held l.page) (bodies_pieces (map_in l.t) (drop l.key-index l.keys)) ≡ put_all (held l.initial.page) (bodies_pieces (map_in l.t) l.keys))
