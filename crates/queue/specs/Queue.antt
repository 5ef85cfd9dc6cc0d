-- A port's queue as a plain list, the earliest first (02, Req 09: "Frames of higher priority leave first, equal ones in order of arrival (004, 4.4)"), of anything that
-- has a priority number. A lower number is a higher priority, and 7 is the highest number. Assumes nothing.
use Rattle.std.specs.Prelude.{cond, List, [], ◌∷◌, ℕ, suc, min, leb}
use Rattle.std.proofs.Math.Option.{Option, none, some}

-- "each holds 64"
abbrev pub most : ℕ
most = 64

module _ {A : Type 0} (priority : A → ℕ) where
  -- the lowest priority number in a list; 8, which is none, where it is empty
  unfoldable pub least : List A → ℕ
  least [] = 8
  least (x ∷ l) = min (priority x) (least l)

  -- the earliest of the highest priority is the first whose number is not above any behind it: its place, counted from 0
  unfoldable pub place : List A → ℕ
  place [] = 0
  place (x ∷ l) = cond (leb (priority x) (least l)) 0 (suc (place l))

  -- the one that leaves
  unfoldable pub leaver : List A → Option A
  leaver [] = none
  leaver (x ∷ l) = cond (leb (priority x) (least l)) (some x) (leaver l)

  -- and those that stay, in their order
  unfoldable pub stayers : List A → List A
  stayers [] = []
  stayers (x ∷ l) = cond (leb (priority x) (least l)) l (x ∷ stayers l)
