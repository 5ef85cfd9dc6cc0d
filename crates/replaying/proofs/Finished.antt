-- A page of 2,304 bytes holds the whole text, and what is handed out of it is the text. Assumes nothing.
use Prim.Native.Nat.{ℕ}
use native.Mathlib.Omega.{arith}
use mathlib.Core.Path.{◌≡◌, ap}
use mathlib.Core.List.{List}
use lib.ListN.{length, take}
use Rattle.text.specs.declared.Page.{Page as Lent}
use Rattle.text.specs.Page.{Laid}
use Rattle.text.specs.Text.{Page, page, put_all, handed}
use Rattle.text.proofs.Laid.{equal}
use Rattle.text.proofs.Pages.{Holds}
use Rattle.text.proofs.Pieces.{holds_pieces}
use Rattle.text.proofs.Handed.{handed-page}
use Rattle.bridge.specs.Bridge.{Bridge, Stands}
use Rattle.replaying.specs.declared.Counts.{Counts}
use Rattle.replaying.specs.declared.Tally.{Tally}
use Rattle.replaying.specs.Lines.{line_of, last_line, pieces_of, page_of, finished}
use Rattle.replaying.proofs.Widths.{enough}

pub filled : (b : Bridge) (s : Tally) (l : List ℕ) (p : Page) → length l ≡ 2304 → p ≡ put_all (page 0 l) (pieces_of b s) → Holds 2304 p (page_of b s)
filled b s l p long e = holds_pieces 2304 (pieces_of b s) l p long (enough b s) e

-- its first bytes, handed out
pub finish_is : (b : Bridge) (s : Tally) (out : List ℕ) (p : Page) → Holds 2304 p (page_of b s) → handed out (take p.at p.bytes) ≡ finished b s out
unfolding finished
finish_is b s out p h = handed-page 2304 p (page_of b s) h (omega arith) out

-- the last line, by an equal number of bytes left
pub ending : (p r : Lent) (k : Counts) (n m : ℕ) → n ≡ m → Laid p r (last_line k n) → Laid p r (last_line k m)
ending p r k n m e f = equal (ap (last_line k) e) f

-- the line of a pair, by an equal standing
pub line_laid : (p r : Lent) (from to : ℕ) (s u : Stands) → s ≡ u → Laid p r (line_of from to s) → Laid p r (line_of from to u)
line_laid p r from to s u e f = equal (ap (line_of from to) e) f
