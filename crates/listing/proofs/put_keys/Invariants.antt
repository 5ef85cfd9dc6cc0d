use mathlib.Core.Path.{◌≡◌}
use Rattle.text.specs.Text.{put_all}
use Rattle.text.specs.Page.{held}
use Rattle.lookup.specs.Next.{held_keys, keys_left}
use Rattle.listing.proofs.Pieces.{lines}
use Rattle.listing.proofs.put_keys.Given as goal

abbrev pub invariant-loop-key : goal.invariant-loop-key
invariant-loop-key l =
    (l.page.out.ghost_name ≡ l.initial.page.out.ghost_name)
    × (put_all (held l.page) (lines l.t (keys_left l.key-iterator)) ≡ put_all (held l.initial.page) (lines l.t (held_keys l.t)))
