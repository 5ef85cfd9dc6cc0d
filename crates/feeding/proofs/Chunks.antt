-- A tally and a chunk, by the laws of chunks (record): either the chunk completes no record, or the first record is the carried bytes with the start of the
-- chunk. Assumes nothing.
use Rattle.std.proofs.Common.{◌≡◌, ℕ, ◌-◌, ◌<◌, ◌≤◌, List, ◌++◌, length, take, drop, ap, subst, arith}
use Rattle.record.specs.Cut.{left_of, over}
use Rattle.record.specs.Chunk.{carried, padded}
use Rattle.record.proofs.Chunks as chunks
use Rattle.feeding.specs.declared.Tally.{Tally}
use Rattle.feeding.specs.declared.Begun.{Begun}
use Rattle.feeding.specs.Feed.{State, state, step, tally_of, begun, Fed, fed, cut_off, feeding}

-- what the whole records of a slice leave
pub leaving : (l cut : List ℕ) (u v : State) (carry : List ℕ) → u ≡ v → cut ≡ left_of l → carry ≡ padded cut
    → fed u.words (record { counts = u.counts; left = length cut; carry = carry }) ≡ cut_off v (left_of l)
leaving l cut u v carry p e q = rw (p, q, e)

-- ---- a tally and a chunk: what is begun then

-- no more bytes are taken than the chunk has
pub taken_few : (s : Tally) (chunk : List ℕ) (b : Begun) → b ≡ begun s chunk → b.taken ≤ length chunk
taken_few s chunk b e = rw e (omega arith)

-- the record that is begun has its 13 bytes
pub whole_carry : (s : Tally) (chunk : List ℕ) (b : Begun) → b ≡ begun s chunk → length b.tally.carry ≡ 13
whole_carry s chunk b e = rw e (chunks.padded-long (carried s.left s.carry ++ chunk))

-- whatever the step
module _ {S : Type 0} (step : S → List ℕ → S) (p : S) (s : Tally) (chunk : List ℕ) (long : length s.carry ≡ 13) (b : Begun) (e : b ≡ begun s chunk) where
  abbrev log : List ℕ
  log = carried s.left s.carry ++ chunk

  -- its bytes make no whole record: they are what is left
  pub still_short : b.tally.left < 13 → (over step p log ≡ p) × (b.tally ≡ tally_of s.counts (left_of log))
  still_short h =
      let (o, r, n) = chunks.still_short step p s.left s.carry chunk long (subst (λ (q : Begun). q.tally.left < 13) e h) in
      (o, rw (e, r, n))

  -- they are a whole record, and the rest of the chunk comes after it
  pub made_whole : 13 ≤ b.tally.left → (over step p log ≡ over step (step p b.tally.carry) (drop b.taken chunk)) × (left_of log ≡ left_of (drop b.taken chunk))
  made_whole h =
      let (o, r, n) = chunks.made_whole step p s.left s.carry chunk long (subst (λ (q : Begun). 13 ≤ q.tally.left) e h) in
      rw e (o, r)

-- ---- the same of feeding

module _ (t : List ℕ) (s : Tally) (chunk : List ℕ) (long : length s.carry ≡ 13) (b : Begun) (e : b ≡ begun s chunk) where
  pub fed-short : b.tally.left < 13 → fed t b.tally ≡ feeding t s chunk
  unfolding feeding
  fed-short h =
      let (o, r) = still_short step (state t s.counts) s chunk long b e h in
      rw (r, o)

  pub fed_whole : 13 ≤ b.tally.left → (u : State) (v : Fed) → u ≡ step (state t b.tally.counts) b.tally.carry
      → v ≡ cut_off (over step u (take (length chunk - b.taken) (drop b.taken chunk))) (left_of (take (length chunk - b.taken) (drop b.taken chunk))) → v ≡ feeding t s chunk
  unfolding feeding
  fed_whole h u v q z =
      let (o, r) = made_whole step (state t s.counts) s chunk long b e h in
      let k : b.tally.counts ≡ s.counts = ap (λ (x : Begun). x.tally.counts) e in
      rw (z, q, k, chunks.to_end chunk b.taken, o, r)
