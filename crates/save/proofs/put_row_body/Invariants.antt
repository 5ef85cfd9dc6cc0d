use Prim.Native.Nat.{◌+◌, ◌-◌}
use mathlib.Core.Path.{◌≡◌}
use Rattle.text.specs.Text.{put_all}
use Rattle.text.specs.Page.{held}
use Rattle.keyrow.specs.View.{place_in}
use Rattle.save.specs.Pieces.{body_pieces}
use Rattle.save.proofs.put_row_body.Given as goal

abbrev pub invariant-loop-i : goal.invariant-loop-i
invariant-loop-i l =
    (l.page.out.ghost_name ≡ l.initial.page.out.ghost_name)
    × (put_all (held l.page) (body_pieces l.head (place_in l.row) (l.i + 1) (l.n - l.i)) ≡ put_all (held l.initial.page) (body_pieces l.head (place_in l.row) 1 l.n))
