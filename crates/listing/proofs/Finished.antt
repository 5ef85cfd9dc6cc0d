-- A page of 512 bytes holds the whole listing, and what is handed out of it is the listing. Assumes nothing.
use Prim.Native.Nat.{ℕ}
use native.Mathlib.Omega.{arith}
use mathlib.Core.Path.{◌≡◌}
use mathlib.Core.List.{List}
use lib.ListN.{length, take}
use Rattle.text.specs.Text.{Page, page, put_all, handed}
use Rattle.text.proofs.Pages.{Holds}
use Rattle.text.proofs.Pieces.{holds_pieces}
use Rattle.text.proofs.Handed.{handed-page}
use Rattle.feeding.specs.declared.Tally.{Tally}
use Rattle.listing.specs.Page.{pieces_of, page_of, finished}
use Rattle.listing.proofs.Widths.{enough}

pub filled : (t : List ℕ) (s : Tally) (l : List ℕ) (p : Page) → length l ≡ 512 → p ≡ put_all (page 0 l) (pieces_of t s) → Holds 512 p (page_of t s)
filled t s l p long e = holds_pieces 512 (pieces_of t s) l p long (enough t s) e

-- its first bytes, handed out
pub finish_is : (t : List ℕ) (s : Tally) (out : List ℕ) (p : Page) → Holds 512 p (page_of t s) → handed out (take p.at p.bytes) ≡ finished t s out
unfolding finished
finish_is t s out p h = handed-page 512 p (page_of t s) h (omega arith) out
