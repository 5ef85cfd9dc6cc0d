-- The image in pieces, laid one after another. Only the promises of private functions cite this.
-- Assumes nothing.
use Rattle.std.specs.Prelude.{ℕ, zero, suc, ◌+◌, List, [], ◌∷◌, ◌++◌, length}
use Rattle.std.proofs.Math.Option.{Option}
use Rattle.message.specs.declared.Key.{Key}
use Rattle.message.specs.declared.Head.{Head}
use Rattle.message.specs.declared.Place.{Place}
use Rattle.maps.specs.Maps.{Map, Nothing, Conflict, Held}
use Rattle.written.specs.Written.{five_of}
use Rattle.image.specs.Write.{place_or, body_of, row_bytes, behind}

-- a body, position by position
unfoldable pub body_pieces : Head → (ℕ → Option Place) → ℕ → ℕ → List (List ℕ)
body_pieces h places p zero = []
body_pieces h places p (suc n) = five_of h p (place_or (places p)) ∷ body_pieces h places (suc p) n

abbrev pub map_pieces : Map → List (List ℕ)
map_pieces Nothing = []
map_pieces Conflict = []
map_pieces (Held h places) = body_pieces h places 1 h.n

module _ (map : Key → Map) where
  unfoldable pub bodies_pieces : List Key → List (List ℕ)
  bodies_pieces [] = []
  bodies_pieces (k ∷ ks) = map_pieces (map k) ++ bodies_pieces ks

module _ (form : ℕ) (edition : Key → ℕ) (map : Key → Map) where
  unfoldable pub row_pieces : ℕ → List Key → List (List ℕ)
  row_pieces at [] = []
  row_pieces at (k ∷ ks) = row_bytes form k (edition k) at (length (body_of (map k))) ∷ row_pieces (at + length (body_of (map k))) ks

  abbrev pub image_pieces : List Key → List (List ℕ)
  image_pieces ks = (form ∷ length ks ∷ []) ∷ (row_pieces (behind form (length ks)) ks ++ bodies_pieces map ks)
