-- The lines of a walk and the last line, laid one after another. Assumes nothing.
use Prim.Native.Nat.{ℕ}
use mathlib.Core.Path.{◌≡◌, sym, ap}
use mathlib.Core.List.{List, [], ◌∷◌, flat_map}
use Rattle.text.specs.declared.Page.{Page as Lent}
use Rattle.text.specs.Page.{Laid}
use Rattle.text.specs.Text.{Page, put_all}
use Rattle.text.proofs.Laid.{equal}
use Rattle.text.proofs.Pieces.{put-more}
use Rattle.message.specs.declared.Key.{Key}
use Rattle.lookup.specs.View.{map_in, edition_in}
use Rattle.feeding.specs.declared.Counts.{Counts}
use Rattle.listing.specs.Lines.{key_line, key_lines, last_line}

-- the last line, by an equal number of bytes left
pub ending : (p r : Lent) (c : Counts) (n m : ℕ) → n ≡ m → Laid p r (last_line c n) → Laid p r (last_line c m)
ending p r c n m e f = equal (ap (last_line c) e) f

-- ---- the lines of a walk

module _ (t : List ℕ) where
  abbrev pub lines : List Key → List (List ℕ)
  lines ks = key_lines (edition_in t) (map_in t) ks

  -- one key more: the lines of those behind it are laid after its own
  pub turn : (k : Key) (now later : List Key) (p q : Page) → now ≡ k ∷ later → q ≡ put_all p (key_line k (edition_in t k) (map_in t k))
      → put_all q (lines later) ≡ put_all p (lines now)
  unfolding flat_map
  turn k now later p q e g = rw (e, g) (sym (put-more (key_line k (edition_in t k) (map_in t k)) (lines later) p))

  -- no key more
  pub stop : (now : List Key) (p : Page) → now ≡ [] → p ≡ put_all p (lines now)
  unfolding flat_map put_all
  stop now p e = rw e
