-- Some runs worked out by the definitions, as ONE claim: what a fitter would try first. Assumes nothing.
use mathlib.Core.Path.{◌≡◌, refl}
use mathlib.Core.Bool.{Bool, true, ◌&&◌}
use mathlib.Core.List.{List, [], ◌∷◌}
use Prim.Native.Nat.{ℕ, zero, suc, ◌+◌}
use lib.Dec.{eqb}
use Rattle.words.specs.First.{first}
use Rattle.words.specs.Rows.{row_at, put_at}
use Rattle.pairs.specs.declared.Command.TheVariants.{Add, Delete, Renew}
use Rattle.pairs.specs.Pairs.{answer_to, decided_by}
use Rattle.pairs.specs.Row.{count_in, entry_in, rewritten, row_after}
use Rattle.ports.specs.Filters.{two_ports, pair_of, fresh_words, commanded, decided}
use Rattle.commands.specs.Calls.{Ask, Order, Decide, PortCall, called, filters_after}

abbrev to : ℕ → ℕ → Ask → PortCall
to f t a = record { from = f; to = t; ask = a }

-- a run, the latest first; a call after it; what the call answers
record Example : Type 0 where
  run : List PortCall
  call : PortCall
  number : ℕ
  detail : ℕ

abbrev gives : List PortCall → PortCall → ℕ → ℕ → Example
gives h c n d = record { run = h; call = c; number = n; detail = d }

abbrev right : Example → Bool
right e =
    eqb (called (filters_after e.run) e.call).answer.number e.number
    && eqb (called (filters_after e.run) e.call).answer.detail e.detail

abbrev every : List Example → Bool
every [] = true
every (e ∷ l) = right e && every l

-- n different PGNs added to the pair 1 → 2
abbrev filled : ℕ → List PortCall
filled zero = []
filled (suc n) = to 1 2 (Order (Add (61440 + n))) ∷ filled n

-- the frame 18FEE300h has the PGN 65251
abbrev frame : Ask
frame = Decide 419357440

abbrev examples : List Example
examples =
    gives [] (to 1 2 frame) 0 1
    ∷ gives (to 1 2 (Order (Add 65251)) ∷ []) (to 1 2 frame) 0 0
    ∷ gives (to 1 2 (Order (Add 65251)) ∷ []) (to 2 1 frame) 0 1
    ∷ gives (to 1 2 (Order (Renew 1)) ∷ []) (to 1 2 frame) 0 0
    ∷ gives (to 1 2 (Order (Add 65251)) ∷ to 1 2 (Order (Renew 1)) ∷ []) (to 1 2 frame) 0 1
    ∷ gives (to 1 2 (Order (Renew 1)) ∷ to 1 2 (Order (Add 65251)) ∷ []) (to 1 2 frame) 0 0
    ∷ gives (to 1 2 (Order (Renew 0)) ∷ to 1 2 (Order (Add 65251)) ∷ []) (to 1 2 frame) 0 1
    ∷ gives (to 1 2 (Order (Renew 0)) ∷ to 2 1 (Order (Add 65251)) ∷ []) (to 2 1 frame) 0 0
    ∷ gives (to 1 2 (Order (Renew 2)) ∷ to 1 2 (Order (Add 65251)) ∷ []) (to 1 2 frame) 0 0
    ∷ gives (to 1 2 (Order (Delete 65251)) ∷ to 1 2 (Order (Add 65251)) ∷ []) (to 1 2 (Order (Delete 65251))) 18 0
    ∷ gives (filled 31) (to 1 2 (Order (Add 65251))) 0 0
    ∷ gives (filled 32) (to 1 2 (Order (Add 65251))) 16 0
    ∷ gives (filled 32) (to 1 2 (Order (Add 61440))) 0 0
    ∷ gives [] (to 1 2 (Order (Delete 1))) 17 0
    ∷ gives [] (to 1 2 (Order (Renew 2))) 19 0
    ∷ gives [] (to 1 15 frame) 15 0
    ∷ gives [] (to 15 1 (Order (Renew 0))) 15 0
    ∷ gives [] (to 3 3 (Order (Renew 2))) 15 0
    ∷ gives [] (to 4 3 (Decide 536870912)) 1 0
    ∷ []

pub examples_hold : every examples ≡ true
unfolding first row_at put_at answer_to decided_by count_in entry_in rewritten row_after two_ports pair_of fresh_words commanded decided
examples_hold = refl
