use Prim.Native.Nat.{◌+◌, ◌*◌, ◌≤◌}
use mathlib.Core.Path.{◌≡◌}
use lib.ListN.{drop}
use Rattle.text.specs.Text.{put_all}
use Rattle.text.specs.Page.{held}
use Rattle.lookup.specs.View.{map_in, edition_in}
use Rattle.save.specs.Pieces.{row_pieces}
use Rattle.save.proofs.put_rows.Given as goal

abbrev pub invariant-loop-key : goal.invariant-loop-key
invariant-loop-key l =
    (l.body ≤ 2042 + 1275 * l.key-index) × (l.page.out.ghost_name ≡ l.initial.page.out.ghost_name)
    × (put_all (held l.page) (row_pieces l.form (edition_in l.t) (map_in l.t) l.body (drop l.key-index l.keys)) ≡ put_all (held l.initial.page) (row_pieces l.form (edition_in l.t) (map_in l.t) l.from l.keys))
