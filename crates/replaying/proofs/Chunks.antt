-- A tally and a chunk, by the laws of chunks (record, Sized.antt): either the chunk completes no record, or the first record is the carried bytes with the start of the chunk; and a trace may be
-- cut into chunks anywhere. Assumes nothing.
use Prim.Native.Nat.{ℕ, ◌-◌, ◌≤◌, ◌<◌}
use mathlib.Core.Path.{◌≡◌, refl, sym, ap, ap₂, subst, ◌∙◌}
use mathlib.Core.List.{List, [], ◌∷◌, ◌++◌, append_assoc, append-nil, flatten}
use native.Mathlib.Omega.{arith}
use lib.ListN.{length, take, drop}
use Rattle.record.specs.declared.Begun.{Begun}
use Rattle.record.specs.Sized.{left_by, over_by, carried_by, padded_by, begun_by}
use Rattle.record.proofs.Sized as sized
use Rattle.bridge.specs.Bridge.{Bridge}
use Rattle.replaying.specs.declared.Counts.{Counts}
use Rattle.replaying.specs.declared.Tally.{Tally}
use Rattle.replaying.specs.Feed.{State, state, step, tally_of, Fed, fed, cut_off, feeding, all_fed}

pub some : 0 < 14
some = omega arith

-- ---- a tally and a chunk, and the record that is begun then (`record::begin`)

module _ (b : Bridge) (w : List ℕ) (s : Tally) (chunk : List ℕ) (long : length s.carry ≡ 14) (g : Begun) (is : g ≡ begun_by (length s.carry) s.left (length chunk)) where
  e : g ≡ begun_by 14 s.left (length chunk)
  e = subst (λ (n : ℕ). g ≡ begun_by n s.left (length chunk)) long is

  -- no more bytes are taken than the chunk has
  pub taken_few : g.taken ≤ length chunk
  taken_few = rw e (omega arith)

  module _ (r : List ℕ) (laid : r ≡ padded_by 14 (carried_by (length s.carry) s.left s.carry ++ chunk)) where
    p : r ≡ padded_by 14 (carried_by 14 s.left s.carry ++ chunk)
    p = subst (λ (n : ℕ). r ≡ padded_by 14 (carried_by n s.left s.carry ++ chunk)) long laid

    -- no whole record
    pub fed-short : g.left < 14 → fed b w (record { counts = s.counts; left = g.left; carry = r }) ≡ feeding b w s chunk
    unfolding feeding
    fed-short h =
        let (o, l, n) = sized.still_short 14 some step (state b w s.counts) s.left s.carry chunk long (subst (λ (x : Begun). x.left < 14) e h) in
        rw (p, e, o, l, n)

    -- a whole one, and the rest of the chunk comes after it
    pub fed_whole : 14 ≤ g.left → (u v : State) (t : Tally) → u ≡ over_by step 14 (state b w s.counts) r → v ≡ over_by step 14 u (take (length chunk - g.taken) (drop g.taken chunk))
        → t ≡ tally_of v.counts (left_by 14 (take (length chunk - g.taken) (drop g.taken chunk))) → fed v.words v.filters t ≡ feeding b w s chunk
    unfolding feeding
    fed_whole h u v t y z x =
        let (o, l, m) = sized.made_whole 14 some step (state b w s.counts) s.left s.carry chunk long (subst (λ (x : Begun). 14 ≤ x.left) e h) in
        let n : length r ≡ 14 = rw p (sized.padded-long 14 some (carried_by 14 s.left s.carry ++ chunk)) in
        rw (x, z, sized.to_end chunk g.taken, y, sized.one_record 14 some step (state b w s.counts) r n, p, e, o, l)

-- ---- chunk after chunk

-- the bytes that a tally carries, and a chunk behind them
abbrev behind : Tally → List ℕ → List ℕ
behind s x = carried_by 14 s.left s.carry ++ x

-- feeding a and then b is feeding a ++ b
pub fed_twice : (b : Bridge) (w : List ℕ) (s : Tally) (x y : List ℕ) → feeding (feeding b w s x).words (feeding b w s x).filters (feeding b w s x).tally y ≡ feeding b w s (x ++ y)
unfolding feeding
fed_twice b w s x y =
    let l = behind s x in
    let u = over_by step 14 (state b w s.counts) l in
    let (o, r) = sized.in_two 14 some step y (state b w s.counts) l in
    ap (λ (z : List ℕ). cut_off (over_by step 14 u (z ++ y)) (left_by 14 (z ++ y))) (sized.carried_back 14 some (left_by 14 l) (sized.left_less 14 some l))
    ∙ ap₂ cut_off (sym o) (sym r)
    ∙ ap (λ (z : List ℕ). cut_off (over_by step 14 (state b w s.counts) z) (left_by 14 z)) (append_assoc (carried_by 14 s.left s.carry) x y)

-- nothing more changes nothing
fed_nothing : (b : Bridge) (w : List ℕ) (k : Counts) (l : List ℕ) → length l < 14 → fed b w (tally_of k l) ≡ feeding b w (tally_of k l) []
unfolding feeding
fed_nothing b w k l h = rw (sized.carried_back 14 some l h, append-nil l, sized.over-short 14 some l h step (state b w k), sized.left-short 14 some l h)

is_cut : (b : Bridge) (w : List ℕ) (s : Tally) (x : List ℕ) → feeding b w s x ≡ cut_off (over_by step 14 (state b w s.counts) (behind s x)) (left_by 14 (behind s x))
unfolding feeding
is_cut b w s x = refl

-- any number of chunks
pub fed_all_lem : (xs : List (List ℕ)) (b : Bridge) (w : List ℕ) (k : Counts) (l : List ℕ) → length l < 14 → all_fed (fed b w (tally_of k l)) xs ≡ feeding b w (tally_of k l) (flatten xs)
unfolding all_fed flatten
fed_all_lem [] b w k l h = fed_nothing b w k l h
fed_all_lem (x ∷ xs) b w k l h = step_by (fed_all_lem xs)
  where
    step_by : ((b : Bridge) (w : List ℕ) (k : Counts) (l : List ℕ) → length l < 14 → all_fed (fed b w (tally_of k l)) xs ≡ feeding b w (tally_of k l) (flatten xs))
        → all_fed (feeding b w (tally_of k l) x) xs ≡ feeding b w (tally_of k l) (x ++ flatten xs)
    step_by ih = ap (λ (f : Fed). all_fed f xs) (is_cut b w (tally_of k l) x) ∙ ih _ _ _ (left_by 14 (behind (tally_of k l) x)) (sized.left_less 14 some (behind (tally_of k l) x))
        ∙ ap (λ (f : Fed). feeding f.words f.filters f.tally (flatten xs)) (sym (is_cut b w (tally_of k l) x)) ∙ fed_twice b w (tally_of k l) x (flatten xs)
