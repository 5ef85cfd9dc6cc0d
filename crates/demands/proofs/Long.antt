-- Demand 1 with the calls of Req 14 in it: a request to send and a packet get an answer from a fixed list, and a refusal leaves everything, but for 29, which drops
-- its session ("as an exception to demand 1"). Demand 3 for pairs is in arrivals (Theorem.antt, Laws.antt). Assumes nothing.
use Prim.Native.Nat.{ℕ}
use mathlib.Core.Path.{◌≡◌}
use mathlib.Core.Bool.{true}
use mathlib.Core.List.{List, [], ◌∷◌}
use Rattle.answers.proofs.Tests.{one_of}
use Rattle.transport.specs.Rows.{Memory}
use Rattle.transport.specs.Calls.{requested, arrived}
use Rattle.arrivals.proofs.Refusals as refusals

module _ (heads : List ℕ) (id len : ℕ) (d : List ℕ) where
  pub request_list : one_of (requested heads id len d).answer.number (0 ∷ 30 ∷ 1 ∷ 2 ∷ 3 ∷ 24 ∷ 31 ∷ []) ≡ true
  request_list = refusals.request_list heads id len d

  pub request_leaves : ((requested heads id len d).answer.number ≡ 0 → ⊥) → (requested heads id len d).memory ≡ heads
  request_leaves = refusals.request_leaves heads id len d

module _ (u : Memory) (out d : List ℕ) (id len : ℕ) where
  pub packet_list : one_of (arrived u out id len d).answer.number (0 ∷ 28 ∷ 29 ∷ 1 ∷ 2 ∷ 3 ∷ []) ≡ true
  packet_list = refusals.packet_list u out d id len

  pub packet_leaves : ((arrived u out id len d).answer.number ≡ 0 → ⊥) → ((arrived u out id len d).answer.number ≡ 29 → ⊥)
      → ((arrived u out id len d).lent ≡ u) × ((arrived u out id len d).out ≡ out)
  packet_leaves = refusals.packet_leaves u out d id len

  -- only the answer that carries a size writes into the lent buffer
  pub buffer_stays : (arrived u out id len d).answer.detail ≡ 0 → (arrived u out id len d).out ≡ out
  buffer_stays = refusals.buffer_stays u out d id len
