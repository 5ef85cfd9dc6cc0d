-- `word_of`: the bytes, the first the lowest, are the number of their bits. Assumes nothing.
use mathlib.Core.Path.{◌≡◌, refl, ap, ◌∙◌}
use mathlib.Core.List.{List}
use Prim.Native.Nat.{ℕ, ◌+◌, ◌*◌, ◌^◌, ◌<◌}
use native.Mathlib.Nat.{zero-add}
use native.Mathlib.Omega.{arith}
use borrow.Author.Rules.{rules}
use lib.ListN.{get_or}
use Rattle.bits.specs.Bits.{bit_at, from_bits, run_at}
use Rattle.bits.proofs.Bits.{from-add}
use Rattle.bits.proofs.Run.{byte-run}
use Rattle.single.proofs.word_of.Goals as goal

-- a byte more
more : (xs : List ℕ) → ((k : ℕ) → get_or xs k 0 < 256) → (n : ℕ) → run_at xs 0 (8 * n + 8) ≡ get_or xs n 0 * 2 ^ (8 * n) + run_at xs 0 (8 * n)
unfolding run_at
more xs fits n =
    simp zero-add (from-add (bit_at xs) (8 * n) 8 ∙ ap (λ (x : ℕ). x * 2 ^ (8 * n) + from_bits (bit_at xs) (8 * n)) (byte-run xs n (fits n)))

none : (xs : List ℕ) → run_at xs 0 0 ≡ 0
unfolding run_at from_bits
none xs = refl

pub returns : goal.returns
returns c =
    let xs = c.args.bytes.now in
    let m = more xs c.fits-bytes in
    (omega (arith, c.from_le_bytes.ensures, m 0, m 1, m 2, m 3, m 4, m 5, m 6, m 7, none xs), search rules)
