-- What the test of lengths says, and what a turn of `pack_into` and of `read_into` makes. Assumes nothing.
use mathlib.Core.Path.{◌≡◌, ◌∙◌}
use mathlib.Core.Bool.{true, false, not, ◌||◌}
use mathlib.Core.List.{List, ◌++◌}
use Prim.Native.Nat.{ℕ, zero, suc, ◌+◌, ◌≤◌, ◌<◌}
use native.Mathlib.Numerals.{add-one}
use native.Mathlib.Omega.{arith}
use borrow.Author.Tests.{eqb-true, not-false, ltb-false}
use lib.Dec.{eqb, ltb}
use lib.ListN.{length, get_or, drop}
use Rattle.words.specs.Lists.{tabulate}
use Rattle.words.proofs.Lists.{write_all}
use Rattle.words.proofs.Lowest.{neither}
use Rattle.places.specs.Place.{size_of, unplaced_in}
use Rattle.places.proofs.Placed.{placed_in}
use Rattle.bits.specs.Bits.{bytes_with, lies_in, with_number, read_number, number_in}
use Rattle.bits.proofs.After.{after_all}
use Rattle.bits.proofs.Bits.{bit_lt}
use Rattle.bits.proofs.Number.{lies_in_lem, number-laid, number_read}
use Rattle.payload.specs.Payload.{bit_after_all, read_all}

-- where no length is wrong: the first is b exactly, the other d at least
pub lengths : (a b c d : ℕ) → (not (eqb a b) || ltb c d) ≡ false → (a ≡ b) × (d ≤ c)
lengths a b c d e = let (f, g) = neither (not (eqb a b)) (ltb c d) e in (eqb-true a b (not-false _ f), ltb-false c d g)

-- every bit is a bit
pub all_lt : (ss ws vs : List ℕ) (n p : ℕ) → bit_after_all ss ws vs n p 1 < 2
unfolding bit_after_all
all_lt ss ws vs zero p = omega arith
all_lt ss ws vs (suc n) p = after_all (λ (x : ℕ). x < 2) _ _ _ p _ (λ j l e. bit_lt _ j) (all_lt ss ws vs n p)

module _ (ss ws : List ℕ) (placed : unplaced_in ss ws ≡ 0) (i : ℕ) (l : i < length ss) where
  -- a parameter that has its place lies in the L bytes
  lies : lies_in (size_of ss ws) (get_or ss i 0) (get_or ws i 0) ≡ true
  lies = let (a, b) = placed_in ss ws placed i l in lies_in_lem (size_of ss ws) (get_or ss i 0) (get_or ws i 0) a b

  -- one number more is laid
  pub pack_turn : (vs xs ys : List ℕ) → xs ≡ bytes_with (λ p. bit_after_all ss ws vs i p 1) (size_of ss ws)
      → ys ≡ with_number xs (get_or ss i 0) (get_or ws i 0) (get_or vs i 0) → ys ≡ bytes_with (λ p. bit_after_all ss ws vs (i + 1) p 1) (size_of ss ws)
  unfolding bit_after_all
  pack_turn vs xs ys e f =
      f ∙ rw (e, add-one) (number-laid (λ p. bit_after_all ss ws vs i p 1) (all_lt ss ws vs i) (size_of ss ws) (get_or ss i 0) (get_or ws i 0) (get_or vs i 0) lies)

  -- the number that is read
  pub read_turn : (payload : List ℕ) (v : ℕ) → length payload ≡ size_of ss ws → v ≡ number_in payload (get_or ss i 0) (get_or ws i 0)
      → v ≡ read_number payload (get_or ss i 0) (get_or ws i 0)
  read_turn payload v e f = f ∙ number_read payload (get_or ss i 0) (get_or ws i 0) (rw e lies)

-- the numbers of a map by their index, and all of them written
abbrev pub read_at : List ℕ → List ℕ → List ℕ → ℕ → ℕ
read_at ss ws payload i = read_number payload (get_or ss i 0) (get_or ws i 0)

pub read_end : (ss ws payload d : List ℕ) → length d ≡ length ss
    → tabulate (read_at ss ws payload) (length ss) ++ drop (length ss) d ≡ read_all ss ws payload
unfolding read_all
read_end ss ws payload d e = rw (← e) (write_all (read_at ss ws payload) d)
