-- A key without a row is not held. Assumes nothing.
use Prim.Native.Nat.{ℕ}
use mathlib.Core.Path.{◌≡◌, ap}
use mathlib.Core.Bool.{false}
use mathlib.Core.List.{List, []}
use lib.ListN.{length}
use Rattle.message.specs.declared.Key.{Key}
use Rattle.lookup.specs.Layout.{table_words}
use Rattle.lookup.specs.View.{map_in, row_for}
use Rattle.lookup.proofs.KeyRow.{no_map}
use Rattle.open.specs.Open.{is_held}

pub none_held : (t : List ℕ) (k : Key) → length t ≡ table_words → [] ≡ row_for t k → is_held (map_in t k) ≡ false
none_held t k long none = ap is_held (no_map t k long none)
