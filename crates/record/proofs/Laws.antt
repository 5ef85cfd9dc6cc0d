-- A record and its 13 bytes: each undoes the other. Assumes nothing.
use Prim.Native.Nat.{ℕ, ◌/◌, ◌%◌, ◌≤◌}
use mathlib.Core.Path.{◌≡◌}
use mathlib.Core.Bool.{Bool, cond}
use mathlib.Core.List.{List, [], ◌∷◌, ◌++◌}
use native.Mathlib.Omega.{arith}
use lib.ListN.{length, length-append}
use borrow.Author.Tests.{le-ltb}
use Rattle.answers.specs.Answers.{Said, outcome, plain}
use Rattle.splice.specs.Splice.{fits, laid}
use Rattle.record.specs.Record.{four_of, record_in, bytes_of, written}

-- what `write` has done, from what its callees say
pub lay : (a : Said) (after before b d : List ℕ) (id len : ℕ) (f : Bool) → b ≡ bytes_of id len d → f ≡ fits before 0 b → after ≡ laid before 0 b
    → a ≡ plain (cond f 0 13) → outcome a after ≡ written before id len d
unfolding written
lay a after before b d id len f p q s t = rw (t, s, q, p)

-- an identifier comes back from its four bytes
pub four_back : (id : ℕ) → four_of (id % 256) (id / 256 % 256) (id / 65536 % 256) (id / 16777216) ≡ id
four_back id = omega arith

-- reading what was written: the frame
pub read_written : (id len a b c d e f g h : ℕ) (rest : List ℕ)
    → record_in (bytes_of id len (a ∷ b ∷ c ∷ d ∷ e ∷ f ∷ g ∷ h ∷ []) ++ rest) ≡ record { id = id; len = len; bytes = a ∷ b ∷ c ∷ d ∷ e ∷ f ∷ g ∷ h ∷ [] }
unfolding record_in bytes_of
read_written id len a b c d e f g h rest =
    let long : 13 ≤ length (bytes_of id len (a ∷ b ∷ c ∷ d ∷ e ∷ f ∷ g ∷ h ∷ []) ++ rest) = rw length-append (omega arith) in
    rw (le-ltb _ 13 long) (let p = four_back id in λ i. record { id = p i; len = len; bytes = a ∷ b ∷ c ∷ d ∷ e ∷ f ∷ g ∷ h ∷ [] })
