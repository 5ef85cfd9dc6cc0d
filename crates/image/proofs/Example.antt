-- The worked example of docs/IMAGE.md: case A of 01, 1517 at 0 and 1519 at 8, under the key 38, 39, 1. Assumes nothing.
use Prim.Native.Nat.{ℕ}
use mathlib.Core.Path.{◌≡◌, refl}
use mathlib.Core.Bool.{false}
use mathlib.Core.List.{[], ◌∷◌}
use Rattle.message.specs.declared.Key.{Key}
use Rattle.message.specs.declared.Message.{Message}
use Rattle.maps.specs.Maps.{Map, map_of, conflict, contradicts, same_head, same_place}
use Rattle.keyrow.specs.Row.{key_of}
use Rattle.written.specs.Written.{five_of}
use Rattle.image.specs.Write.{body_from, full_row, row_bytes, rows_of, bodies_of, image_from}

abbrev says : ℕ → ℕ → ℕ → Message
says p spn start = record {
  key = key_of 38 39 1;
  head = record { n = 2; proprietary = false; transport = false };
  position = p;
  place = record { spn = spn; start = start };
}

abbrev map : Key → Map
map k = map_of (says 2 1519 8 ∷ says 1 1517 0 ∷ [])

-- form 2 and one row; the key, its body at byte 10 with 10 bytes, its edition 2010; the two positions
pub worked : image_from 2 (λ k. 2010) map (key_of 38 39 1 ∷ [])
    ≡ 2 ∷ 1 ∷ 38 ∷ 39 ∷ 1 ∷ 10 ∷ 0 ∷ 10 ∷ 0 ∷ 0 ∷ 237 ∷ 5 ∷ 1 ∷ 2 ∷ 1 ∷ 239 ∷ 5 ∷ 2 ∷ 2 ∷ 9 ∷ []
unfolding image_from rows_of bodies_of row_bytes full_row body_from five_of conflict contradicts same_head same_place
worked = refl

-- as it was written in form 1, without the edition, so that the body begins a byte before
pub worked_old : image_from 1 (λ k. 2010) map (key_of 38 39 1 ∷ [])
    ≡ 1 ∷ 1 ∷ 38 ∷ 39 ∷ 1 ∷ 9 ∷ 0 ∷ 10 ∷ 0 ∷ 237 ∷ 5 ∷ 1 ∷ 2 ∷ 1 ∷ 239 ∷ 5 ∷ 2 ∷ 2 ∷ 9 ∷ []
unfolding image_from rows_of bodies_of row_bytes full_row body_from five_of conflict contradicts same_head same_place
worked_old = refl
